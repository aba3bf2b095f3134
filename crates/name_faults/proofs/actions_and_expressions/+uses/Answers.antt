use Rattle.std.proofs.Common.{refl, ap, ◌∙◌}
use Rattle.list_lemmas.proofs.Results.{OnOk-same}
use Rattle.aadl_tree.specs.declared.expressions.Sign.{Sign}
use Rattle.aadl_tree.specs.declared.expressions.LogicOperator.{LogicOperator}
use Rattle.aadl_tree.specs.declared.expressions.MultiplyOperator.{MultiplyOperator}
use Rattle.aadl_tree.specs.declared.expressions.Factor.{Factor}
use Rattle.aadl_tree.specs.declared.expressions.Term.{Term}
use Rattle.aadl_tree.specs.declared.expressions.Relation.{Relation}
use Rattle.aadl_tree.specs.proof.ExpressionViews.{primary_view, factor_view, factors_view, term_view, terms_view}
use Rattle.aadl_tree.specs.proof.ExpressionViews.{relation_view, relations_view}
use Rattle.aadl_tree.specs.proof.PlaceMaps.{kept_place}
use Rattle.aadl_tree.proofs.ExpressionViews.{view-Group, view-out-sum, view-out-relation, view-out-expression}
use Rattle.aadl_tree.proofs.ExpressionViews.{view-out-term}
use Rattle.aadl_names.specs.NameUseFaults.{factor_uses, factors_uses, term_uses, terms_uses, relation_uses}
use Rattle.aadl_names.specs.NameUseFaults.{relations_uses}
use Rattle.name_faults.specs.proof.BehaviourScopes.{known_by}
use Rattle.aadl_names.proofs.FirstFaultSoFar.{found_append, next_found, last_found}
use Rattle.name_faults.proofs.actions_and_expressions.+uses.Goals as goal

pub check_expression-loop-operand-preserved : goal.check_expression-loop-operand-preserved
check_expression-loop-operand-preserved t c =
    next_found (λ xs. relations_uses (known_by c.args.scope.now) (relations_view kept_place xs))
    (λ (x : LogicOperator × Relation). relation_uses (known_by c.args.scope.now) (relation_view kept_place x.1))
    (λ x xs. refl) _ _ _ _ _ _
    c.loop-operand-test.true c.operand-item.is c.loop-operand.invariant c.in_ok-check_relation-2.ensures

pub check_sum-loop-operand-preserved : goal.check_sum-loop-operand-preserved
check_sum-loop-operand-preserved t c =
    next_found (λ xs. terms_uses (known_by c.args.scope.now) (terms_view kept_place xs))
    (λ (x : Sign × Term). term_uses (known_by c.args.scope.now) (term_view kept_place x.1))
    (λ x xs. refl) _ _ _ _ _ _
    c.loop-operand-test.true c.operand-item.is c.loop-operand.invariant c.in_ok-check_term-2.ensures

pub check_term-loop-operand-preserved : goal.check_term-loop-operand-preserved
check_term-loop-operand-preserved t c =
    next_found (λ xs. factors_uses (known_by c.args.scope.now) (factors_view kept_place xs))
    (λ (x : MultiplyOperator × Factor). factor_uses (known_by c.args.scope.now) (factor_view kept_place x.1))
    (λ x xs. refl) _ _ _ _ _ _
    c.loop-operand-test.true c.operand-item.is c.loop-operand.invariant c.in_ok-check_factor-2.ensures

pub check_expression-returns : goal.check_expression-returns
check_expression-returns t c =
    let rest =
    last_found (λ xs. relations_uses (known_by c.args.scope.now) (relations_view kept_place xs)) _ _ _ _
    c.loop-operand-test.false refl
    c.loop-operand.invariant in
    let view = view-out-expression kept_place c.args.expression.now in
    rw (view, found_append) (cc (c.in_ok-check_relation.ensures, c.deref-operand-items.ensures.value))

pub check_sum-returns : goal.check_sum-returns
check_sum-returns t c =
    let rest =
    last_found (λ xs. terms_uses (known_by c.args.scope.now) (terms_view kept_place xs)) _ _ _ _
    c.loop-operand-test.false refl
    c.loop-operand.invariant in
    let view = view-out-sum kept_place c.args.sum.now in
    rw (view, found_append) (cc (c.in_ok-check_term.ensures, c.deref-operand-items.ensures.value))

pub check_term-returns : goal.check_term-returns
check_term-returns t c =
    let rest =
    last_found (λ xs. factors_uses (known_by c.args.scope.now) (factors_view kept_place xs)) _ _ _ _
    c.loop-operand-test.false refl
    c.loop-operand.invariant in
    let view = view-out-term kept_place c.args.term.now in
    rw (view, found_append) (cc (c.in_ok-check_factor.ensures, c.deref-operand-items.ensures.value))

pub check_primary-returns-in-Group : goal.check_primary-returns-in-Group
check_primary-returns-in-Group t c =
    let view = ap (primary_view kept_place) c.in-Group.is ∙ view-Group kept_place c.in-Group.at c.in-Group.inner in
    OnOk-same c.check_expression.result c.check_expression.new.finder _ _ (rw view (cc (c.deref.ensures)))
    c.check_expression.ensures

pub check_relation-returns-in-Some : goal.check_relation-returns-in-Some
check_relation-returns-in-Some t c =
    let view = view-out-relation kept_place c.args.relation.now in
    let right = c.in-Some.is in
    OnOk-same c.check_sum-in-Some.result c.check_sum-in-Some.new.finder _ _
    (rw (view, right, found_append) (cc (c.in_ok-check_sum.ensures, c.deref.ensures)))
    c.check_sum-in-Some.ensures

pub check_relation-returns-in-None : goal.check_relation-returns-in-None
check_relation-returns-in-None t c =
    let view = view-out-relation kept_place c.args.relation.now in
    let right = c.in-None.is in
    rw (view, right) (c.in_ok-check_sum.ensures)
