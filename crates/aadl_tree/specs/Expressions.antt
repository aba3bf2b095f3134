-- Expressions as plain trees, and the parts that spell them.
use Rattle.std.specs.Prelude.{ℤ, Bool, true, false, List, [], ◌∷◌, ◌++◌, Option}
use Rattle.aadl_tree.specs.declared.mark.Mark.{Mark}
use Rattle.aadl_tree.specs.declared.expressions.Sign.{Sign}
use Rattle.aadl_tree.specs.declared.expressions.LogicOperator.{LogicOperator}
use Rattle.aadl_tree.specs.declared.expressions.RelationOperator.{RelationOperator}
use Rattle.aadl_tree.specs.declared.expressions.MultiplyOperator.{MultiplyOperator}
use Rattle.aadl_tree.specs.Terminals.{whole, mark}
use Rattle.aadl_tree.specs.SpellingParts.{SpellingPart, token, plain, parts_if}
use Rattle.aadl_tree.specs.Names.{Identifier, identifier_parts}
use Rattle.aadl_tree.specs.Values.{sign_mark}
use Rattle.aadl_tree.specs.declared.mark.Mark.TheVariants as k
use Rattle.aadl_tree.specs.declared.expressions.LogicOperator.TheVariants as logic
use Rattle.aadl_tree.specs.declared.expressions.RelationOperator.TheVariants as compare
use Rattle.aadl_tree.specs.declared.expressions.MultiplyOperator.TheVariants as multiply

-- the sign before a sum
pub record LeadingSign (P : Type 0) : Type 0 where
  pub at : P
  pub sign : Sign

mutual
  pub data Primary (P : Type 0) : Type 0 where
    number : P → ℤ → Primary P
    truth : P → Bool → Primary P
    named : Identifier P → Bool → Primary P
    group : P → Expression P → Primary P

  pub data Factor (P : Type 0) : Type 0 where
    absolute : P → Primary P → Factor P
    negated : P → Primary P → Factor P
    bare : Primary P → Factor P

  pub data Term (P : Type 0) : Type 0 where
    term : Factor P → Factors P → Term P

  pub data Factors (P : Type 0) : Type 0 where
    no_factors : Factors P
    factor : MultiplyOperator → Factor P → Factors P → Factors P

  pub data Sum (P : Type 0) : Type 0 where
    total : Option (LeadingSign P) → Term P → Terms P → Sum P

  pub data Terms (P : Type 0) : Type 0 where
    no_terms : Terms P
    add : Sign → Term P → Terms P → Terms P

  pub data Relation (P : Type 0) : Type 0 where
    single : Sum P → Relation P
    compared : Sum P → RelationOperator → Sum P → Relation P

  pub data Expression (P : Type 0) : Type 0 where
    expression : Relation P → Relations P → Expression P

  pub data Relations (P : Type 0) : Type 0 where
    no_relations : Relations P
    join : LogicOperator → Relation P → Relations P → Relations P

abbrev pub truth_mark : Bool → Mark
truth_mark true = k.True
truth_mark false = k.False

abbrev pub multiply_mark : MultiplyOperator → Mark
multiply_mark multiply.Times = k.Star
multiply_mark multiply.Divide = k.Slash
multiply_mark multiply.Mod = k.Mod
multiply_mark multiply.Rem = k.Rem

abbrev pub relation_mark : RelationOperator → Mark
relation_mark compare.Equal = k.Equal
relation_mark compare.NotEqual = k.NotEqual
relation_mark compare.Less = k.Less
relation_mark compare.LessOrEqual = k.LessOrEqual
relation_mark compare.Greater = k.Greater
relation_mark compare.GreaterOrEqual = k.GreaterOrEqual

abbrev pub logic_parts : {P : Type 0} → LogicOperator → List (SpellingPart P)
logic_parts logic.And = plain k.And ∷ []
logic_parts logic.Or = plain k.Or ∷ []
logic_parts logic.Xor = plain k.Xor ∷ []
logic_parts logic.AndThen = plain k.And ∷ (plain k.Then ∷ [])
logic_parts logic.OrElse = plain k.Or ∷ (plain k.Else ∷ [])

abbrev pub leading_parts : {P : Type 0} → LeadingSign P → List (SpellingPart P)
leading_parts x = token (mark (sign_mark x.sign)) (x.at ∷ []) ∷ []

-- [ "'" "fresh" ]
abbrev pub fresh_parts : {P : Type 0} → Bool → List (SpellingPart P)
fresh_parts true = plain k.Tick ∷ (plain k.Fresh ∷ [])
fresh_parts false = []

abbrev mutual
  pub primary_parts : {P : Type 0} → Primary P → List (SpellingPart P)
  primary_parts (number at n) = token (whole n) (at ∷ []) ∷ []
  primary_parts (truth at b) = token (mark (truth_mark b)) (at ∷ []) ∷ []
  primary_parts (named x fresh) = identifier_parts x ++ fresh_parts fresh
  primary_parts (group at e) = token (mark k.ParenOpen) (at ∷ []) ∷ (expression_parts e ++ plain k.ParenClose ∷ [])

  pub factor_parts : {P : Type 0} → Factor P → List (SpellingPart P)
  factor_parts (absolute at x) = token (mark k.Abs) (at ∷ []) ∷ primary_parts x
  factor_parts (negated at x) = token (mark k.Not) (at ∷ []) ∷ primary_parts x
  factor_parts (bare x) = primary_parts x

  pub term_parts : {P : Type 0} → Term P → List (SpellingPart P)
  term_parts (term first rest) = factor_parts first ++ factors_parts rest

  pub factors_parts : {P : Type 0} → Factors P → List (SpellingPart P)
  factors_parts no_factors = []
  factors_parts (factor operator x rest) = plain (multiply_mark operator) ∷ (factor_parts x ++ factors_parts rest)

  pub sum_parts : {P : Type 0} → Sum P → List (SpellingPart P)
  sum_parts (total sign first rest) = parts_if leading_parts sign ++ (term_parts first ++ terms_parts rest)

  pub terms_parts : {P : Type 0} → Terms P → List (SpellingPart P)
  terms_parts no_terms = []
  terms_parts (add sign x rest) = plain (sign_mark sign) ∷ (term_parts x ++ terms_parts rest)

  pub relation_parts : {P : Type 0} → Relation P → List (SpellingPart P)
  relation_parts (single x) = sum_parts x
  relation_parts (compared x operator y) = sum_parts x ++ (plain (relation_mark operator) ∷ sum_parts y)

  pub expression_parts : {P : Type 0} → Expression P → List (SpellingPart P)
  expression_parts (expression first rest) = relation_parts first ++ relations_parts rest

  pub relations_parts : {P : Type 0} → Relations P → List (SpellingPart P)
  relations_parts no_relations = []
  relations_parts (join operator x rest) = logic_parts operator ++ (relation_parts x ++ relations_parts rest)
