-- Expressions that differ only in their places have the same spelling. For the proof that a text has one tree.
use Rattle.std.proofs.Common.{refl, Bool, true, false, Option, Some, None, option_map}
use Rattle.aadl_tree.specs.declared.expressions.LogicOperator.{LogicOperator}
use Rattle.aadl_tree.specs.declared.expressions.LogicOperator.TheVariants as logic
use Rattle.aadl_tree.specs.SpellingParts.{parts_if}
use Rattle.aadl_tree.specs.Expressions as e
use Rattle.aadl_tree.specs.proof.PlaceMaps.{expression_to, factor_to, factors_to, leading_to, primary_to, relation_to}
use Rattle.aadl_tree.specs.proof.PlaceMaps.{relations_to, sum_to, term_to, terms_to}
use Rattle.aadl_grammar.proofs.PlaceIndependence.AlikeParts.{Alike, none, one, both}

leading_alike : {P Q : Type 0} (f : P → Q) (t : Option (e.LeadingSign P))
    → Alike f (parts_if e.leading_parts t) (parts_if e.leading_parts (option_map (leading_to f) t))
leading_alike f None = none
leading_alike f (Some t) = one refl none

fresh_alike : {P Q : Type 0} {f : P → Q} (b : Bool) → Alike f (e.fresh_parts b) (e.fresh_parts b)
fresh_alike true = one refl (one refl none)
fresh_alike false = none

logic_alike : {P Q : Type 0} {f : P → Q} (o : LogicOperator) → Alike f (e.logic_parts o) (e.logic_parts o)
logic_alike logic.And = one refl none
logic_alike logic.Or = one refl none
logic_alike logic.Xor = one refl none
logic_alike logic.AndThen = one refl (one refl none)
logic_alike logic.OrElse = one refl (one refl none)

mutual
  pub primary_alike : {P Q : Type 0} (f : P → Q) (t : e.Primary P)
      → Alike f (e.primary_parts t) (e.primary_parts (primary_to f t))
  primary_alike f (e.number at t) = one refl none
  primary_alike f (e.truth at t) = one refl none
  primary_alike f (e.named t u) = one refl (fresh_alike u)
  primary_alike f (e.group at t) = one refl (both (expression_alike f t) (one refl none))

  pub factor_alike : {P Q : Type 0} (f : P → Q) (t : e.Factor P)
      → Alike f (e.factor_parts t) (e.factor_parts (factor_to f t))
  factor_alike f (e.absolute at t) = one refl (primary_alike f t)
  factor_alike f (e.negated at t) = one refl (primary_alike f t)
  factor_alike f (e.bare t) = primary_alike f t

  pub term_alike : {P Q : Type 0} (f : P → Q) (t : e.Term P) → Alike f (e.term_parts t) (e.term_parts (term_to f t))
  term_alike f (e.term t u) = both (factor_alike f t) (factors_alike f u)

  pub factors_alike : {P Q : Type 0} (f : P → Q) (t : e.Factors P)
      → Alike f (e.factors_parts t) (e.factors_parts (factors_to f t))
  factors_alike f e.no_factors = none
  factors_alike f (e.factor o t u) = one refl (both (factor_alike f t) (factors_alike f u))

  pub sum_alike : {P Q : Type 0} (f : P → Q) (t : e.Sum P) → Alike f (e.sum_parts t) (e.sum_parts (sum_to f t))
  sum_alike f (e.total o t u) = both (leading_alike f o) (both (term_alike f t) (terms_alike f u))

  pub terms_alike : {P Q : Type 0} (f : P → Q) (t : e.Terms P)
      → Alike f (e.terms_parts t) (e.terms_parts (terms_to f t))
  terms_alike f e.no_terms = none
  terms_alike f (e.add o t u) = one refl (both (term_alike f t) (terms_alike f u))

  pub relation_alike : {P Q : Type 0} (f : P → Q) (t : e.Relation P)
      → Alike f (e.relation_parts t) (e.relation_parts (relation_to f t))
  relation_alike f (e.single t) = sum_alike f t
  relation_alike f (e.compared t o u) = both (sum_alike f t) (one refl (sum_alike f u))

  pub expression_alike : {P Q : Type 0} (f : P → Q) (t : e.Expression P)
      → Alike f (e.expression_parts t) (e.expression_parts (expression_to f t))
  expression_alike f (e.expression t u) = both (relation_alike f t) (relations_alike f u)

  pub relations_alike : {P Q : Type 0} (f : P → Q) (t : e.Relations P)
      → Alike f (e.relations_parts t) (e.relations_parts (relations_to f t))
  relations_alike f e.no_relations = none
  relations_alike f (e.join o t u) = both (logic_alike o) (both (relation_alike f t) (relations_alike f u))
