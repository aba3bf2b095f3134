-- Connections with the same target port as an earlier connection.
use Rattle.std.specs.Prelude.{◌≡◌, ℕ, ◌<◌, List, Option, Some, slice_get}
use Rattle.std.specs.Option.{option_and_then}
use Rattle.aadl_names.specs.declared.numbered_port.NumberedPort.{NumberedPort}
use Rattle.aadl_uses.specs.declared.connections_by_target.ConnectionPorts.{ConnectionPorts}

-- the target port of a connection, if it is declared
abbrev pub target_in : List ConnectionPorts → ℕ → Option NumberedPort
target_in wires n = option_and_then (λ wire. wire.target) (slice_get wires n)

-- a connection with the same target port as an earlier one
pub record IsDuplicate (wires : List ConnectionPorts) (second : ℕ) : Type 0 where
  pub first : ℕ
  pub target : NumberedPort
  pub in_order : first < second
  pub earlier : target_in wires first ≡ Some target
  pub here : target_in wires second ≡ Some target
