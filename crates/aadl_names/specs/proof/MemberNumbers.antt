-- The numbers of the members of a declaration: the ports of a type, or the subcomponents of an implementation.
use Rattle.std.specs.Prelude.{ℕ, List, Option, Some, None}
use Rattle.aadl_tree.specs.Declarations.{Declaration, type, implementation}
use Rattle.aadl_names.specs.NameResolution.{port_named, sub_named}

abbrev pub member_of : Option (Declaration ℕ) → List ℕ → Option ℕ
member_of None name = None
member_of (Some (type x)) name = port_named x.features name
member_of (Some (implementation x)) name = sub_named x.subcomponents name
