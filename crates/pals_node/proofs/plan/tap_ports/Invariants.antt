use Rattle.std.proofs.Common.{◌≡◌, ◌++◌, map, drop, nat_eq}
use Rattle.std.specs.Prelude.{filter}
use Rattle.pals_model.specs.declared.design.Tap.{Tap}
use Rattle.pals_node.proofs.plan.tap_ports.Given as goal

-- the ports so far, and the ports of the remaining taps
abbrev pub invariant-loop-tap : goal.invariant-loop-tap
invariant-loop-tap l =
    l.ports ++ map (λ (tap : Tap). tap.out_port)
    (filter (λ (tap : Tap). nat_eq tap.source.0 l.node.0) (drop l.tap-index l.tap-items))
    ≡ map (λ (tap : Tap). tap.out_port) (filter (λ (tap : Tap). nat_eq tap.source.0 l.node.0) l.tap-items)
