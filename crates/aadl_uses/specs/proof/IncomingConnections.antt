-- The connections of a declaration, and the source of the connection into a port.
use Rattle.std.specs.Prelude.{ℕ, List, Option, Some, None, slice_get}
use Rattle.std.specs.Option.{option_and_then, option_map_or}
use Rattle.aadl_tree.specs.Declarations.{Declaration, PackageTree}
use Rattle.aadl_names.specs.declared.numbered_port.NumberedPort.{NumberedPort}
use Rattle.aadl_names.specs.NameResolution.{implementation_in}
use Rattle.aadl_uses.specs.declared.connections_by_target.ConnectionPorts.{ConnectionPorts}
use Rattle.aadl_uses.specs.proof.FirstConnections.{first_into}
use Rattle.aadl_uses.specs.PortsOfConnections.{wires_of, connection_ports_at}

abbrev pub wires_in : PackageTree ℕ → Declaration ℕ → List ConnectionPorts
wires_in tree d = wires_of tree (implementation_in (Some d))

-- the number of the first connection of a declaration into a port
abbrev pub first_into_at : PackageTree ℕ → ℕ → NumberedPort → Option ℕ
first_into_at tree n target = first_into (connection_ports_at tree n) target

-- the source of a connection, with the connection's number
abbrev pub with_source : ℕ → ConnectionPorts → Option (ℕ × NumberedPort)
with_source number wire = option_map_or (λ source. Some (number, source)) wire.source None

abbrev pub sourced : List ConnectionPorts → ℕ → Option (ℕ × NumberedPort)
sourced wires number = option_and_then (with_source number) (slice_get wires number)

-- the first connection of a declaration into a port, and its source
abbrev pub connection_into : PackageTree ℕ → ℕ → NumberedPort → Option (ℕ × NumberedPort)
connection_into tree n target = option_and_then (sourced (connection_ports_at tree n)) (first_into_at tree n target)
