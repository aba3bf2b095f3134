-- Properties and their values as plain trees, and the parts that spell them.
use Rattle.std.specs.Prelude.{ℕ, ℤ, Bool, List, [], ◌∷◌, ◌++◌, Option}
use Rattle.aadl_tree.specs.declared.mark.Mark.{Mark}
use Rattle.aadl_tree.specs.declared.expressions.Sign.{Sign}
use Rattle.aadl_tree.specs.declared.values.AssociationOperator.{AssociationOperator}
use Rattle.aadl_tree.specs.Terminals.{whole, real, quoted}
use Rattle.aadl_tree.specs.SpellingParts.{SpellingPart, token, plain, marked_if, parts_if, behind, chained}
use Rattle.aadl_tree.specs.Names.{Identifier, Name, Path, Reference, identifier_parts, name_parts, path_parts}
use Rattle.aadl_tree.specs.Names.{reference_parts}
use Rattle.aadl_tree.specs.declared.mark.Mark.TheVariants as k
use Rattle.aadl_tree.specs.declared.expressions.Sign.TheVariants as signs
use Rattle.aadl_tree.specs.declared.values.AssociationOperator.TheVariants as operators

-- a number without its sign
pub data UnsignedNumber : Type 0 where
  whole_figure : ℤ → UnsignedNumber
  real_figure : List ℕ → UnsignedNumber

pub record Number : Type 0 where
  pub sign : Option Sign
  pub figure : UnsignedNumber

pub record Quantity (P : Type 0) : Type 0 where
  pub number : Number
  pub unit : Option (Identifier P)

mutual
  pub data Value (P : Type 0) : Type 0 where
    list : Values P → Value P
    fields : Associations P → Value P
    text : List ℕ → Value P
    reference : Path P → Value P
    classifier : Reference P → Value P
    named : Reference P → Value P
    number : Quantity P → Option (Quantity P) → Value P

  pub data Values (P : Type 0) : Type 0 where
    no_values : Values P
    value : Value P → Values P → Values P

  -- a property: its name and operator, whether it is `constant`, its value, and the paths that it applies to
  pub data Association (P : Type 0) : Type 0 where
    association : Name P → AssociationOperator → Bool → Value P → List (Path P) → Association P

  pub data Associations (P : Type 0) : Type 0 where
    no_associations : Associations P
    associate : Association P → Associations P → Associations P

abbrev pub sign_mark : Sign → Mark
sign_mark signs.Plus = k.Plus
sign_mark signs.Minus = k.Minus

abbrev pub sign_parts : {P : Type 0} → Sign → List (SpellingPart P)
sign_parts sign = plain (sign_mark sign) ∷ []

abbrev pub figure_parts : {P : Type 0} → UnsignedNumber → List (SpellingPart P)
figure_parts (whole_figure n) = token (whole n) [] ∷ []
figure_parts (real_figure bytes) = token (real bytes) [] ∷ []

-- [ "+" | "-" ] ( whole | real )
abbrev pub number_parts : {P : Type 0} → Number → List (SpellingPart P)
number_parts x = parts_if sign_parts x.sign ++ figure_parts x.figure

-- number [ id ]
abbrev pub quantity_parts : {P : Type 0} → Quantity P → List (SpellingPart P)
quantity_parts x = number_parts x.number ++ parts_if identifier_parts x.unit

abbrev pub association_mark : AssociationOperator → Mark
association_mark operators.Becomes = k.Becomes
association_mark operators.Appends = k.Appends

-- [ "applies" "to" path { "," path } ]
abbrev pub applies_parts : {P : Type 0} → List (Path P) → List (SpellingPart P)
applies_parts [] = []
applies_parts (x ∷ xs) = plain k.Applies ∷ (plain k.To ∷ chained k.Comma path_parts x xs)

abbrev mutual
  pub value_parts : {P : Type 0} → Value P → List (SpellingPart P)
  value_parts (list vs) = plain k.ParenOpen ∷ (values_parts vs ++ plain k.ParenClose ∷ [])
  value_parts (fields xs) = plain k.BracketOpen ∷ (associations_parts xs ++ plain k.BracketClose ∷ [])
  value_parts (text bytes) = token (quoted bytes) [] ∷ []
  value_parts (reference x) = plain k.Reference ∷ (plain k.ParenOpen ∷ (path_parts x ++ plain k.ParenClose ∷ []))
  value_parts (classifier x) = plain k.Classifier ∷ (plain k.ParenOpen ∷ (reference_parts x ++ plain k.ParenClose ∷ []))
  value_parts (named x) = reference_parts x
  value_parts (number low high) = quantity_parts low ++ parts_if (behind k.Range quantity_parts) high

  -- [ value { "," value } ]
  pub values_parts : {P : Type 0} → Values P → List (SpellingPart P)
  values_parts no_values = []
  values_parts (value v vs) = value_parts v ++ more_values_parts vs

  pub more_values_parts : {P : Type 0} → Values P → List (SpellingPart P)
  more_values_parts no_values = []
  more_values_parts (value v vs) = plain k.Comma ∷ (value_parts v ++ more_values_parts vs)

  -- name ( "=>" | "+=>" ) [ "constant" ] value [ applies ] ";"
  pub association_parts : {P : Type 0} → Association P → List (SpellingPart P)
  association_parts (association name operator constant v paths) =
      name_parts name ++ (plain (association_mark operator)
      ∷ (marked_if k.Constant constant ++ (value_parts v ++ (applies_parts paths ++ plain k.Semicolon ∷ []))))

  pub associations_parts : {P : Type 0} → Associations P → List (SpellingPart P)
  associations_parts no_associations = []
  associations_parts (associate x xs) = association_parts x ++ associations_parts xs

-- [ "{" property { property } "}" ]
abbrev pub properties_parts : {P : Type 0} → Associations P → List (SpellingPart P)
properties_parts no_associations = []
properties_parts (associate x xs) = plain k.BraceOpen ∷ (associations_parts (associate x xs) ++ plain k.BraceClose ∷ [])
