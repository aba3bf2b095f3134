use Rattle.std.proofs.Common.{refl}
use Rattle.aadl_chains.proofs.chain_connections.JoinedPorts.of.Goals as goal

pub returns : goal.returns
returns c = (
  refl,
  record {
    gives_out = c.in_ok-gives.ensures.0;
    gives = c.in_ok-gives.ensures.1;
    takes_in = c.in_ok-takes.ensures.0;
    takes = c.in_ok-takes.ensures.1;
    fed_side = c.in_ok-fed.ensures.0;
    fed = c.in_ok-fed.ensures.1;
    led_side = c.in_ok-led.ensures.0;
    led = c.in_ok-led.ensures.1;
  },
)
