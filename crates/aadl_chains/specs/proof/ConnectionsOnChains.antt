-- A connection on a connection chain, characterised by its two ends.
use Rattle.std.specs.Prelude.{◌≡◌, ℕ, Some}
use Rattle.aadl_tree.specs.Declarations.{PackageTree}
use Rattle.aadl_names.specs.declared.numbered_port.NumberedPort.{NumberedPort}
use Rattle.aadl_uses.specs.declared.connections_by_target.ConnectionPorts.{ConnectionPorts}
use Rattle.aadl_chains.specs.proof.PortsJoinedInside.{IsInside}
use Rattle.aadl_chains.specs.proof.PortsJoinedOutside.{LeadsFrom, IsOutside}
use Rattle.aadl_chains.specs.declared.chain_connections.JoinedPorts.{JoinedPorts}
use Rattle.aadl_tree.specs.declared.declarations.Direction.TheVariants as directions

pub record IsOnChain (tree : PackageTree ℕ) (root n : ℕ) (wire : ConnectionPorts) : Type 0 where
  pub source : NumberedPort
  pub target : NumberedPort
  pub source_is : wire.source ≡ Some source
  pub target_is : wire.target ≡ Some target
  pub comes : LeadsFrom tree root directions.In n source
  pub goes : LeadsFrom tree root directions.Out n target

-- the sets have all ports that carry values of threads or reach threads, and all ports that receive values from
-- outside or provide them
pub record AreChainPorts (tree : PackageTree ℕ) (ways : JoinedPorts) : Type 0 where
  pub gives_out : ways.gives.direction ≡ directions.Out
  pub gives : IsInside tree directions.Out ways.gives.ports
  pub takes_in : ways.takes.direction ≡ directions.In
  pub takes : IsInside tree directions.In ways.takes.ports
  pub fed_side : ways.fed.side ≡ record { root = ways.root; direction = directions.In }
  pub fed : IsOutside tree ways.root directions.In ways.fed.ports
  pub led_side : ways.led.side ≡ record { root = ways.root; direction = directions.Out }
  pub led : IsOutside tree ways.root directions.Out ways.led.ports
