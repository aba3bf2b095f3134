-- The ports that the connections of a package join, by number, if both ends are declared.
use Rattle.std.specs.Prelude.{ℕ, List, [], map, Option, Some, None}
use Rattle.aadl_tree.specs.Declarations.{Connection, Implementation, PackageTree}
use Rattle.aadl_names.specs.NameResolution.{implementation_at, end_port}
use Rattle.aadl_uses.specs.declared.connections_by_target.ConnectionPorts.{ConnectionPorts}

abbrev pub ports_of_connection : PackageTree ℕ → Implementation ℕ → Connection ℕ → ConnectionPorts
ports_of_connection tree x c = record { source = end_port tree x c.source; target = end_port tree x c.target }

abbrev pub wires_of : PackageTree ℕ → Option (Implementation ℕ) → List ConnectionPorts
wires_of tree None = []
wires_of tree (Some x) = map (ports_of_connection tree x) x.connections

-- the connections of a declaration
abbrev pub connection_ports_at : PackageTree ℕ → ℕ → List ConnectionPorts
connection_ports_at tree n = wires_of tree (implementation_at tree n)
