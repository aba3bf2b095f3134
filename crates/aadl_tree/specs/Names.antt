-- Names and references as plain trees. Each word has a place, of the type P.
use Rattle.std.specs.Prelude.{ℕ, Bool, List, [], ◌∷◌, ◌++◌, flat_map, Option, Some, None}
use Rattle.std.specs.Str.{str_eq_ignore_ascii_case}
use Rattle.aadl_tree.specs.Terminals.{word}
use Rattle.aadl_tree.specs.SpellingParts.{SpellingPart, token, plain, parts_if, behind, chained}
use Rattle.aadl_tree.specs.declared.mark.Mark.TheVariants as k

pub record Identifier (P : Type 0) : Type 0 where
  pub at : P
  pub spelling : List ℕ

pub record Name (P : Type 0) : Type 0 where
  pub first : Identifier P
  pub rest : List (Identifier P)

pub record Path (P : Type 0) : Type 0 where
  pub first : Identifier P
  pub rest : List (Identifier P)

pub record Identifiers (P : Type 0) : Type 0 where
  pub first : Identifier P
  pub rest : List (Identifier P)

pub record Reference (P : Type 0) : Type 0 where
  pub qualifiers : List (Identifier P)
  pub type_name : Identifier P
  pub implementation : Option (Identifier P)

abbrev pub identifier_parts : {P : Type 0} → Identifier P → List (SpellingPart P)
identifier_parts x = token (word x.spelling) (x.at ∷ []) ∷ []

-- id { "::" id }
abbrev pub name_parts : {P : Type 0} → Name P → List (SpellingPart P)
name_parts x = chained k.Scope identifier_parts x.first x.rest

-- id { "." id }
abbrev pub path_parts : {P : Type 0} → Path P → List (SpellingPart P)
path_parts x = chained k.Dot identifier_parts x.first x.rest

-- id { "," id }
abbrev pub identifiers_parts : {P : Type 0} → Identifiers P → List (SpellingPart P)
identifiers_parts x = chained k.Comma identifier_parts x.first x.rest

-- id "::"
abbrev pub qualifier_parts : {P : Type 0} → Identifier P → List (SpellingPart P)
qualifier_parts x = identifier_parts x ++ plain k.Scope ∷ []

-- { id "::" } id [ "." id ]
abbrev pub reference_parts : {P : Type 0} → Reference P → List (SpellingPart P)
reference_parts x =
    flat_map qualifier_parts x.qualifiers
    ++ (identifier_parts x.type_name ++ parts_if (behind k.Dot identifier_parts) x.implementation)

-- names are compared without regard to case
abbrev pub same_name : List ℕ → List ℕ → Bool
same_name a b = str_eq_ignore_ascii_case a b

abbrev pub identifiers : {P : Type 0} → Identifiers P → List (Identifier P)
identifiers x = x.first ∷ x.rest

-- the items of an optional list
abbrev pub listed_in : {X : Type 0} → Option (List X) → List X
listed_in None = []
listed_in (Some xs) = xs
