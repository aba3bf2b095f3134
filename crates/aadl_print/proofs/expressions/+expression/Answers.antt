use Rattle.std.proofs.Common.{◌∙◌, ◌∷◌, ◌++◌, refl, ap, append_assoc}
use Rattle.list_lemmas.proofs.Results.{OnOk-same}
use Rattle.aadl_tree.specs.declared.expressions.Sign.{Sign}
use Rattle.aadl_tree.specs.declared.expressions.LogicOperator.{LogicOperator}
use Rattle.aadl_tree.specs.declared.expressions.MultiplyOperator.{MultiplyOperator}
use Rattle.aadl_tree.specs.declared.expressions.Factor.{Factor}
use Rattle.aadl_tree.specs.declared.expressions.Term.{Term}
use Rattle.aadl_tree.specs.declared.expressions.Relation.{Relation}
use Rattle.aadl_tree.specs.SpellingParts.{plain}
use Rattle.aadl_tree.specs.Values.{sign_mark}
use Rattle.aadl_tree.specs.Expressions.{multiply_mark, logic_parts, factor_parts, factors_parts, term_parts}
use Rattle.aadl_tree.specs.Expressions.{terms_parts, relation_parts, relations_parts}
use Rattle.aadl_tree.specs.proof.ExpressionViews.{primary_view, factor_view, factors_view, term_view, terms_view}
use Rattle.aadl_tree.specs.proof.ExpressionViews.{relation_view, relations_view}
use Rattle.aadl_tree.specs.proof.PlaceMaps.{no_place}
use Rattle.aadl_tree.proofs.ExpressionViews.{view-Group, view-out-sum, view-out-relation, view-out-expression}
use Rattle.aadl_tree.proofs.ExpressionViews.{view-out-term}
use Rattle.aadl_print.proofs.PrintedLists.{printed_append, next_written, last_written}
use Rattle.aadl_print.proofs.expressions.+expression.Goals as goal

pub print_expression-loop-operator-preserved : goal.print_expression-loop-operator-preserved
print_expression-loop-operator-preserved t c =
    next_written (λ xs. relations_parts (relations_view no_place xs))
    (λ (x : LogicOperator × Relation). logic_parts x.0 ++ relation_parts (relation_view no_place x.1))
    (λ x xs. simp append_assoc) _ _ _ _ _ _
    c.loop-operator-test.true c.loop-operator-item.is c.loop-operator.invariant
    (rw printed_append (cc (c.in_ok-print_logic.ensures, c.in_ok-print_relation-2.ensures)))

pub print_sum-loop-sign-preserved : goal.print_sum-loop-sign-preserved
print_sum-loop-sign-preserved t c =
    next_written (λ xs. terms_parts (terms_view no_place xs))
    (λ (x : Sign × Term). plain (sign_mark x.0) ∷ term_parts (term_view no_place x.1))
    (λ x xs. refl) _ _ _ _ _ _
    c.loop-sign-test.true c.loop-sign-item.is c.loop-sign.invariant
    (cc (c.sign_mark.ensures, c.in_ok-mark.ensures, c.in_ok-print_term-2.ensures))

pub print_term-loop-operator-preserved : goal.print_term-loop-operator-preserved
print_term-loop-operator-preserved t c =
    next_written (λ xs. factors_parts (factors_view no_place xs))
    (λ (x : MultiplyOperator × Factor). plain (multiply_mark x.0) ∷ factor_parts (factor_view no_place x.1))
    (λ x xs. refl) _ _ _ _ _ _
    c.loop-operator-test.true c.loop-operator-item.is c.loop-operator.invariant
    (cc (c.multiply_mark.ensures, c.in_ok-mark.ensures, c.in_ok-print_factor-2.ensures))

pub print_expression-returns : goal.print_expression-returns
print_expression-returns t c =
    let rest =
    last_written (λ xs. relations_parts (relations_view no_place xs)) _ _ _ _ c.loop-operator-test.false refl
    c.loop-operator.invariant in
    let view = view-out-expression no_place c.args.expression.now in
    rw (view, printed_append) (cc (c.in_ok-print_relation.ensures, c.deref-operator-items.ensures.value))

pub print_sum-returns : goal.print_sum-returns
print_sum-returns t c =
    let rest =
    last_written (λ xs. terms_parts (terms_view no_place xs)) _ _ _ _ c.loop-sign-test.false refl
    c.loop-sign.invariant in
    let view = view-out-sum no_place c.args.sum.now in
    rw (view, printed_append, printed_append)
    (cc (c.in_ok-print_option.ensures, c.in_ok-print_term.ensures, c.deref-sign-items.ensures.value))

pub print_term-returns : goal.print_term-returns
print_term-returns t c =
    let rest =
    last_written (λ xs. factors_parts (factors_view no_place xs)) _ _ _ _ c.loop-operator-test.false refl
    c.loop-operator.invariant in
    let view = view-out-term no_place c.args.term.now in
    rw (view, printed_append) (cc (c.in_ok-print_factor.ensures, c.deref-operator-items.ensures.value))

pub print_primary-returns-in_ok-print_expression-in-Group : goal.print_primary-returns-in_ok-print_expression-in-Group
print_primary-returns-in_ok-print_expression-in-Group t c =
    let view = ap (primary_view no_place) c.in-Group.is ∙ view-Group no_place c.in-Group.at c.in-Group.inner in
    OnOk-same c.mark-in-Group-2.result c.mark-in-Group-2.new.self _ _
    (rw (view, printed_append)
    (cc (c.in_ok-mark-in-Group.ensures, c.in_ok-print_expression-in-Group.ensures, c.deref.ensures)))
    c.mark-in-Group-2.ensures

pub print_relation-returns-in_ok-print_sum-2 : goal.print_relation-returns-in_ok-print_sum-2
print_relation-returns-in_ok-print_sum-2 t c =
    let view = view-out-relation no_place c.args.relation.now in
    let right = c.in-Some.is in
    rw (view, right, printed_append)
    (cc (c.in_ok-print_sum.ensures, c.relation_mark.ensures, c.in_ok-mark.ensures, c.in_ok-print_sum-2.ensures))
