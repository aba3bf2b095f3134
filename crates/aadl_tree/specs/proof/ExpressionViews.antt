-- The plain trees of expressions, their models.
use Rattle.std.specs.Prelude.{ℕ, List, [], ◌∷◌, map, Option, Some, None, option_map, Box}
use Rattle.std.specs.declared.alloc.Global.{Global}
use Rattle.aadl_tree.specs.declared.expressions.Sign.{Sign}
use Rattle.aadl_tree.specs.declared.expressions.LogicOperator.{LogicOperator}
use Rattle.aadl_tree.specs.declared.expressions.RelationOperator.{RelationOperator}
use Rattle.aadl_tree.specs.declared.expressions.MultiplyOperator.{MultiplyOperator}
use Rattle.aadl_tree.specs.declared.expressions.Factor.TheOpen.{Factor-F, Primary-F, Expression-F, Relation-F, Sum-F}
use Rattle.aadl_tree.specs.declared.expressions.Factor.TheOpen.{Term-F}
use Rattle.aadl_tree.specs.Expressions.{LeadingSign, Primary, number, truth, named, group, Factor, absolute, negated}
use Rattle.aadl_tree.specs.Expressions.{bare, Term, term, Factors, no_factors, factor, Sum, total, Terms, no_terms, add}
use Rattle.aadl_tree.specs.Expressions.{Relation, single, compared, Expression, expression, Relations, no_relations}
use Rattle.aadl_tree.specs.Expressions.{join}
use Rattle.aadl_tree.specs.proof.NameViews.{identifier_view}
use Rattle.aadl_tree.specs.declared.expressions.LeadingSign as source_leading
use Rattle.aadl_tree.specs.declared.expressions.Factor as source_factor
use Rattle.aadl_tree.specs.declared.expressions.Primary as source_primary
use Rattle.aadl_tree.specs.declared.expressions.Expression as source_expression
use Rattle.aadl_tree.specs.declared.expressions.Relation as source_relation
use Rattle.aadl_tree.specs.declared.expressions.Sum as source_sum
use Rattle.aadl_tree.specs.declared.expressions.Term as source_term

abbrev pub leading_view : {P : Type 0} → (ℕ → P) → source_leading.LeadingSign → LeadingSign P
leading_view place x = record { at = place x.at; sign = x.sign }

abbrev pub factors_of : {P : Type 0} → List (MultiplyOperator × Factor P) → Factors P
factors_of [] = no_factors
factors_of (x ∷ xs) = factor x.0 x.1 (factors_of xs)

abbrev pub terms_of : {P : Type 0} → List (Sign × Term P) → Terms P
terms_of [] = no_terms
terms_of (x ∷ xs) = add x.0 x.1 (terms_of xs)

abbrev pub relations_of : {P : Type 0} → List (LogicOperator × Relation P) → Relations P
relations_of [] = no_relations
relations_of (x ∷ xs) = join x.0 x.1 (relations_of xs)

abbrev pub relation_of : {P : Type 0} → Sum P → Option (Box (RelationOperator × Sum P) Global) → Relation P
relation_of left None = single left
relation_of left (Some right) = compared left right.value.0 right.value.1

-- one level of each, whose parts are already plain trees
abbrev pub primary_step : {P : Type 0} → (ℕ → P)
    → Primary-F (Factor P) (Primary P) (Expression P) (Relation P) (Sum P) (Term P) → Primary P
primary_step place (Primary-F.Whole at n) = number (place at) n
primary_step place (Primary-F.Truth at b) = truth (place at) b
primary_step place (Primary-F.Named x fresh) = named (identifier_view place x) fresh
primary_step place (Primary-F.Group at e) = group (place at) e.value

abbrev pub factor_step : {P : Type 0} → (ℕ → P)
    → Factor-F (Factor P) (Primary P) (Expression P) (Relation P) (Sum P) (Term P) → Factor P
factor_step place (Factor-F.Abs at x) = absolute (place at) x.value
factor_step place (Factor-F.Not at x) = negated (place at) x.value
factor_step place (Factor-F.Plain x) = bare x

abbrev pub term_step : {P : Type 0}
    → Term-F (Factor P) (Primary P) (Expression P) (Relation P) (Sum P) (Term P) → Term P
term_step x = term x.first (factors_of x.rest.items)

abbrev pub sum_step : {P : Type 0} → (ℕ → P)
    → Sum-F (Factor P) (Primary P) (Expression P) (Relation P) (Sum P) (Term P) → Sum P
sum_step place x = total (option_map (leading_view place) x.sign) x.first (terms_of x.rest.items)

abbrev pub relation_step : {P : Type 0} → Relation-F (Factor P) (Primary P) (Expression P) (Relation P) (Sum P) (Term P)
    → Relation P
relation_step x = relation_of x.left x.right

abbrev pub expression_step : {P : Type 0}
    → Expression-F (Factor P) (Primary P) (Expression P) (Relation P) (Sum P) (Term P) → Expression P
expression_step x = expression x.first (relations_of x.rest.items)

abbrev pub primary_view : {P : Type 0} → (ℕ → P) → source_primary.Primary → Primary P
primary_view {P} place =
    source_primary.fold-Primary (Factor P) (Primary P) (Expression P) (Relation P) (Sum P) (Term P)
    (factor_step place) (primary_step place) expression_step relation_step (sum_step place) term_step

abbrev pub factor_view : {P : Type 0} → (ℕ → P) → source_factor.Factor → Factor P
factor_view {P} place =
    source_factor.fold-Factor (Factor P) (Primary P) (Expression P) (Relation P) (Sum P) (Term P)
    (factor_step place) (primary_step place) expression_step relation_step (sum_step place) term_step

abbrev pub term_view : {P : Type 0} → (ℕ → P) → source_term.Term → Term P
term_view {P} place =
    source_term.fold-Term (Factor P) (Primary P) (Expression P) (Relation P) (Sum P) (Term P)
    (factor_step place) (primary_step place) expression_step relation_step (sum_step place) term_step

abbrev pub sum_view : {P : Type 0} → (ℕ → P) → source_sum.Sum → Sum P
sum_view {P} place =
    source_sum.fold-Sum (Factor P) (Primary P) (Expression P) (Relation P) (Sum P) (Term P)
    (factor_step place) (primary_step place) expression_step relation_step (sum_step place) term_step

abbrev pub relation_view : {P : Type 0} → (ℕ → P) → source_relation.Relation → Relation P
relation_view {P} place =
    source_relation.fold-Relation (Factor P) (Primary P) (Expression P) (Relation P) (Sum P) (Term P)
    (factor_step place) (primary_step place) expression_step relation_step (sum_step place) term_step

-- a relation's view, by its fields
abbrev pub sides_view : {P : Type 0} → (ℕ → P) → source_sum.Sum
    → Option (Box (RelationOperator × source_sum.Sum) Global) → Relation P
sides_view place left None = single (sum_view place left)
sides_view place left (Some right) = compared (sum_view place left) right.value.0 (sum_view place right.value.1)

abbrev pub expression_view : {P : Type 0} → (ℕ → P) → source_expression.Expression → Expression P
expression_view {P} place =
    source_expression.fold-Expression (Factor P) (Primary P) (Expression P) (Relation P) (Sum P) (Term P)
    (factor_step place) (primary_step place) expression_step relation_step (sum_step place) term_step

abbrev pub factors_view : {P : Type 0} → (ℕ → P) → List (MultiplyOperator × source_factor.Factor) → Factors P
factors_view place xs = factors_of (map (λ x. (x.0, factor_view place x.1)) xs)

abbrev pub terms_view : {P : Type 0} → (ℕ → P) → List (Sign × source_term.Term) → Terms P
terms_view place xs = terms_of (map (λ x. (x.0, term_view place x.1)) xs)

abbrev pub relations_view : {P : Type 0} → (ℕ → P) → List (LogicOperator × source_relation.Relation) → Relations P
relations_view place xs = relations_of (map (λ x. (x.0, relation_view place x.1)) xs)
