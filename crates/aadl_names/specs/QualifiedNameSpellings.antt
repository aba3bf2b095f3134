-- How names, references and ends of connections are spelled.
use Rattle.std.specs.Prelude.{ℕ, List, ◌++◌, flat_map, Option, Some, None, codes}
use Rattle.aadl_tree.specs.Names.{Identifier, Name, Reference}
use Rattle.aadl_tree.specs.Declarations.{ImplementationName, ConnectionEnd}

-- ---- the tokens of a name without anything between them
abbrev pub spelled_name : Name ℕ → List ℕ
spelled_name x = x.first.spelling ++ flat_map (λ y. codes "::" ++ y.spelling) x.rest

abbrev pub dotted : List ℕ → Option (Identifier ℕ) → List ℕ
dotted front None = front
dotted front (Some x) = front ++ codes "." ++ x.spelling

abbrev pub spelled_reference : Reference ℕ → List ℕ
spelled_reference x =
    flat_map (λ y. y.spelling ++ codes "::") x.qualifiers ++ dotted x.type_name.spelling x.implementation

abbrev pub spelled_implementation : ImplementationName ℕ → List ℕ
spelled_implementation x = dotted x.component_type.spelling (Some x.implementation)

abbrev pub spelled_end : ConnectionEnd ℕ → List ℕ
spelled_end x = dotted x.first.spelling x.second
