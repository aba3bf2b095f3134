-- Tables that give a number to each port, and the equality of ports that ends of connections name.
use Rattle.std.specs.Prelude.{ℕ, Bool, false, ◌&&◌, nat_eq, List, Option, Some, None}
use Rattle.std.specs.Map.{lookup}
use Rattle.aadl_names.specs.declared.numbered_port.NumberedPort.{NumberedPort}
use Rattle.aadl_names.specs.declared.numbered_port.NumberedPort.TheVariants.{Own, Inner}

abbrev pub same_port : NumberedPort → NumberedPort → Bool
same_port (Own p) (Own q) = nat_eq p q
same_port (Own p) (Inner t q) = false
same_port (Inner s p) (Own q) = false
same_port (Inner s p) (Inner t q) = nat_eq s t && nat_eq p q

-- an end is declared, and is this port
abbrev pub is_port : NumberedPort → Option NumberedPort → Bool
is_port port None = false
is_port port (Some site) = same_port port site

-- the number of a port in a table
abbrev pub number_of : List (NumberedPort × ℕ) → NumberedPort → Option ℕ
number_of table port = lookup (same_port port) table
