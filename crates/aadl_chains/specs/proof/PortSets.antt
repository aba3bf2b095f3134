-- Sets of ports: membership, and the set with one more port.
use Rattle.std.specs.Prelude.{Bool, ◌&&◌, nat_eq, List, [], ◌∷◌, ◌++◌, if◌then◌else◌}
use Rattle.std.specs.List.{list_any}
use Rattle.aadl_chains.specs.declared.port_set.PortAt.{PortAt}

abbrev pub same_port : PortAt → PortAt → Bool
same_port a b = nat_eq a.declaration b.declaration && nat_eq a.port b.port

abbrev pub has : List PortAt → PortAt → Bool
has ports port = list_any (same_port port) ports

abbrev pub with_port : List PortAt → PortAt → List PortAt
with_port ports port = if has ports port then ports else ports ++ port ∷ []
