use Rattle.std.proofs.Common.{◌≡◌, sym, ap, ◌∙◌, not, length, None, rules}
use Rattle.std.proofs.lemmas.Int.{to_z-of_z}
use mir.Syntax.{w64}
use mir.Val.{SFits}
use Rattle.list_lemmas.proofs.Options.{none_unless_some}
use Rattle.pals_base.specs.ExpressionAndActionTrees.{Literal}
use Rattle.std.specs.Option.{is_some}
use Rattle.std.proofs.lemmas.Bool.{true≢false}
use Rattle.aadl_tree.specs.declared.expressions.Factor.TheViews.{out-Expression, out-Sum, out-Relation, out-Term}
use Rattle.aadl_tree.specs.proof.PlaceMaps.{kept_place}
use Rattle.aadl_tree.specs.proof.ExpressionViews.{primary_view, factor_view, term_view, sum_view, relation_view}
use Rattle.aadl_tree.proofs.ExpressionViews.{view-Whole, view-Truth, view-Group, view-Abs, view-Not, view-Plain}
use Rattle.aadl_tree.proofs.ExpressionViews.{view-out-expression, view-out-sum, view-out-relation, view-out-term}
use Rattle.annex_resolve.proofs.SeveralOperands.{empty_by, some_by}
use Rattle.annex_resolve.proofs.ResolvedTermsAndSums.{term_alone, term_several, sum_alone, sum_several}
use Rattle.annex_resolve.proofs.ResolvedExpressions.{relation_alone, relation_compared, expression_alone}
use Rattle.annex_resolve.proofs.ResolvedExpressions.{expression_several, factors_none, factors_next, of_factors}
use Rattle.annex_resolve.proofs.ResolvedExpressions.{terms_none, terms_next, of_terms, relations_none, relations_next}
use Rattle.annex_resolve.proofs.ResolvedExpressions.{of_relations, factor_absolute, factor_negated, factor_plain}
use Rattle.annex_resolve.proofs.ResolvedExpressions.{primary_number, primary_truth, primary_group}
use Rattle.annex_resolve.proofs.expressions.+expression.Goals as goal
use Rattle.annex_resolve.proofs.expressions.+expression.Goals.{resolve_sum-else-is_none-via-then-is_none+else-is_empty}
use Rattle.annex_resolve.proofs.expressions.+expression.Goals.{resolve_sum-else-is_none-via-else-is_none}

-- ---- expressions
pub resolve_expression-returns-then-is_empty : goal.resolve_expression-returns-then-is_empty
resolve_expression-returns-then-is_empty t c =
    let view = view-out-expression kept_place c.args.expression.now in
    let none =
    empty_by (out-Expression c.args.expression.now).rest c.is_empty.result c.is_empty.ensures c.if-is_empty.true in
    rw view (expression_alone c.args.scope.now (relation_view kept_place (out-Expression c.args.expression.now).first)
    (out-Expression c.args.expression.now).rest.items _ _ _ none c.in_ok-first.ensures)

pub resolve_expression-returns : goal.resolve_expression-returns
resolve_expression-returns t c =
    let view = view-out-expression kept_place c.args.expression.now in
    let some =
    some_by (out-Expression c.args.expression.now).rest c.is_empty.result c.is_empty.ensures c.if-is_empty.false in
    let rest =
    of_relations c.args.scope.now _ (out-Expression c.args.expression.now).rest.items _ _ _ c.deref.ensures.value
    c.in_ok-rest.ensures in
    rw view (expression_several c.args.scope.now (relation_view kept_place (out-Expression c.args.expression.now).first)
    (out-Expression c.args.expression.now).rest.items c.at.result c.in_ok-first.first c.in_ok-rest.rest.items
    c.in_ok-chained.field-0 _ _ _ _
    some c.in_ok-first.ensures c.at.ensures c.in_ok-expect.ensures rest c.in_ok-chained.ensures)

pub resolve_relations-loop-operator-init : goal.resolve_relations-loop-operator-init
resolve_relations-loop-operator-init t c =
    relations_none c.args.scope.now c.new-operands.result.items c.args.found.now c.new-operands.ensures.items

pub resolve_relations-loop-operator-preserved : goal.resolve_relations-loop-operator-preserved
resolve_relations-loop-operator-preserved t c =
    relations_next _ _ _ _ c.logic_op.result c.at.result c.in_ok-typed.typed _ _ _ _ _ _ c.loop-operator-test.true
    c.loop-operator-item.is c.loop-operator.invariant c.in_ok-typed.ensures
    c.at.ensures c.in_ok-expect.ensures c.logic_op.ensures c.in_ok-push_compact.ensures

-- ---- relations
pub resolve_relation-returns-in-None : goal.resolve_relation-returns-in-None
resolve_relation-returns-in-None t c =
    let view = view-out-relation kept_place c.args.relation.now in
    let right = c.in-None.is in
    rw (view, right) (relation_alone c.args.scope.now (sum_view kept_place (out-Relation c.args.relation.now).left) _ _
    _ c.in_ok-left.ensures)

pub resolve_relation-returns-in_ok-expect_sides-in-Some : goal.resolve_relation-returns-in_ok-expect_sides-in-Some
resolve_relation-returns-in_ok-expect_sides-in-Some t c =
    let view = view-out-relation kept_place c.args.relation.now in
    let right = c.in-Some.is in
    let same = sym c.deref-in-Some.ensures in
    let other = c.deref.ensures ∙ same in
    let x = c.deref-in-Some.result.now in
    rw (view, right, same) (relation_compared c.args.scope.now
    (sum_view kept_place (out-Relation c.args.relation.now).left) (sum_view kept_place x.1) x.0 c.at.result
    c.at-in-Some.result
    c.in_ok-left.left c.in_ok-right-in-Some.right c.compared.result _ _ _ _ c.in_ok-left.ensures
    c.in_ok-right-in-Some.ensures c.at.ensures c.at-in-Some.ensures
    (rw other at c.in_ok-expect_sides-in-Some.ensures)
    (rw other at c.compared.ensures.tree) c.compared.ensures.kind)

-- ---- sums
pub resolve_sum-returns-then-is_empty : goal.resolve_sum-returns-then-is_empty
resolve_sum-returns-then-is_empty t c =
    let view = view-out-sum kept_place c.args.sum.now in
    let none = empty_by (out-Sum c.args.sum.now).rest c.is_empty.result c.is_empty.ensures c.if-is_empty.true in
    rw view (sum_alone c.args.scope.now (out-Sum c.args.sum.now).sign
    (term_view kept_place (out-Sum c.args.sum.now).first) (out-Sum c.args.sum.now).rest.items _ _ _
    (none_unless_some (out-Sum c.args.sum.now).sign (c.is_none.ensures ∙ ap not c.if-is_none.true)) none
    c.in_ok-first.ensures)

pub resolve_sum-returns : goal.resolve_sum-returns
resolve_sum-returns t c =
    let view = view-out-sum kept_place c.args.sum.now in
    let x = out-Sum c.args.sum.now in
    let some : x.sign ≡ None → length x.rest.items ≡ 0 → ⊥ = elim c.else-is_none.branch [
      | resolve_sum-else-is_none-via-then-is_none+else-is_empty w ↦ λ none.
          some_by x.rest w.is_empty.result w.is_empty.ensures w.if-is_empty.false
      | resolve_sum-else-is_none-via-else-is_none w ↦ λ none zero.
          true≢false (sym (c.is_none.ensures ∙ ap not w.if-is_none.false) ∙ ap is_some none)
    ] in
    let rest = of_terms c.args.scope.now _ x.rest.items _ _ _ c.deref.ensures.value c.in_ok-rest.ensures in
    rw view (sum_several c.args.scope.now x.sign (term_view kept_place x.first) x.rest.items c.at.result
    c.in_ok-first.first c.in_ok-first-2.first c.in_ok-rest.rest.items c.in_ok-chained.field-0 _ _ _ _
    some c.in_ok-first.ensures c.at.ensures c.in_ok-expect.ensures c.in_ok-first-2.ensures rest c.in_ok-chained.ensures)

pub resolve_terms-loop-sign-init : goal.resolve_terms-loop-sign-init
resolve_terms-loop-sign-init t c =
    terms_none c.args.scope.now c.new-operands.result.items c.args.found.now c.new-operands.ensures.items

pub resolve_terms-loop-sign-preserved : goal.resolve_terms-loop-sign-preserved
resolve_terms-loop-sign-preserved t c =
    terms_next _ _ _ _ c.sign_op.result c.at.result c.in_ok-typed.typed _ _ _ _ _ _ c.loop-sign-test.true
    c.loop-sign-item.is c.loop-sign.invariant c.in_ok-typed.ensures
    c.at.ensures c.in_ok-expect.ensures c.sign_op.ensures c.in_ok-push_compact.ensures

pub resolve_term-returns-then-is_empty : goal.resolve_term-returns-then-is_empty
resolve_term-returns-then-is_empty t c =
    let view = view-out-term kept_place c.args.term.now in
    let none = empty_by (out-Term c.args.term.now).rest c.is_empty.result c.is_empty.ensures c.if-is_empty.true in
    rw view (term_alone c.args.scope.now (factor_view kept_place (out-Term c.args.term.now).first)
    (out-Term c.args.term.now).rest.items _ _ _ none c.in_ok-first.ensures)

pub resolve_term-returns : goal.resolve_term-returns
resolve_term-returns t c =
    let view = view-out-term kept_place c.args.term.now in
    let some = some_by (out-Term c.args.term.now).rest c.is_empty.result c.is_empty.ensures c.if-is_empty.false in
    let rest =
    of_factors c.args.scope.now _ (out-Term c.args.term.now).rest.items _ _ _ c.deref.ensures.value
    c.in_ok-rest.ensures in
    rw view (term_several c.args.scope.now (factor_view kept_place (out-Term c.args.term.now).first)
    (out-Term c.args.term.now).rest.items c.at.result c.in_ok-first.first c.in_ok-rest.rest.items
    c.in_ok-chained.field-0 _ _ _ _
    some c.in_ok-first.ensures c.at.ensures c.in_ok-expect.ensures rest c.in_ok-chained.ensures)

pub resolve_factors-loop-operator-init : goal.resolve_factors-loop-operator-init
resolve_factors-loop-operator-init t c =
    factors_none c.args.scope.now c.new-operands.result.items c.args.found.now c.new-operands.ensures.items

pub resolve_factors-loop-operator-preserved : goal.resolve_factors-loop-operator-preserved
resolve_factors-loop-operator-preserved t c =
    factors_next _ _ _ _ c.multiply_op.result c.at.result c.in_ok-typed.typed _ _ _ _ _ _ c.loop-operator-test.true
    c.loop-operator-item.is c.loop-operator.invariant c.in_ok-typed.ensures
    c.at.ensures c.in_ok-expect.ensures c.multiply_op.ensures c.in_ok-push_compact.ensures

-- ---- factors
pub resolve_factor-returns-in_ok-new-in-Abs : goal.resolve_factor-returns-in_ok-new-in-Abs
resolve_factor-returns-in_ok-new-in-Abs t c =
    let view = ap (factor_view kept_place) c.in-Abs.is ∙ view-Abs kept_place c.in-Abs.at c.in-Abs.operand in
    rw view (factor_absolute c.args.scope.now c.in-Abs.at (primary_view kept_place c.in-Abs.operand.value) c.at.result
    c.in_ok-typed-in-Abs.typed c.in_ok-new-in-Abs.field-0 _ _ _
    (rw c.deref.ensures at c.in_ok-typed-in-Abs.ensures) (rw c.deref-in-Abs.ensures at c.at.ensures)
    c.in_ok-expect-in-Abs.ensures c.in_ok-new-in-Abs.ensures.ok)

pub resolve_factor-returns-in_ok-new-in-Not : goal.resolve_factor-returns-in_ok-new-in-Not
resolve_factor-returns-in_ok-new-in-Not t c =
    let view = ap (factor_view kept_place) c.in-Not.is ∙ view-Not kept_place c.in-Not.at c.in-Not.operand in
    rw view (factor_negated c.args.scope.now c.in-Not.at (primary_view kept_place c.in-Not.operand.value)
    c.at-in-Not.result c.in_ok-typed-in-Not.typed c.in_ok-new-in-Not.field-0 _ _ _
    (rw c.deref-in-Not.ensures at c.in_ok-typed-in-Not.ensures) (rw c.deref-in-Not-2.ensures at c.at-in-Not.ensures)
    c.in_ok-expect-in-Not.ensures c.in_ok-new-in-Not.ensures.ok)

pub resolve_factor-returns-in-Plain : goal.resolve_factor-returns-in-Plain
resolve_factor-returns-in-Plain t c =
    factor_plain c.args.scope.now _ (primary_view kept_place c.in-Plain.operand) c.resolve_primary-in-Plain.result _ _
    (ap (factor_view kept_place) c.in-Plain.is ∙ view-Plain kept_place c.in-Plain.operand)
    c.resolve_primary-in-Plain.ensures

-- ---- operands
pub resolve_primary-returns-in-Whole : goal.resolve_primary-returns-in-Whole
resolve_primary-returns-in-Whole t c =
    let view = ap (primary_view kept_place) c.in-Whole.is ∙ view-Whole kept_place c.in-Whole.at c.in-Whole.value in
    let fits : SFits w64 c.in-Whole.value = search rules in
    rw view (primary_number c.args.scope.now c.in-Whole.at c.in-Whole.value c.literal.result c.args.found.now
    (c.literal.ensures.tree ∙ ap Literal (to_z-of_z w64 _ fits)) c.literal.ensures.kind)

pub resolve_primary-returns-in-Truth : goal.resolve_primary-returns-in-Truth
resolve_primary-returns-in-Truth t c =
    let view = ap (primary_view kept_place) c.in-Truth.is ∙ view-Truth kept_place c.in-Truth.at c.in-Truth.value in
    rw view (primary_truth c.args.scope.now c.in-Truth.at c.in-Truth.value c.truth_literal.result c.args.found.now
    c.truth_literal.ensures.tree c.truth_literal.ensures.kind)

pub resolve_primary-returns-in-Group : goal.resolve_primary-returns-in-Group
resolve_primary-returns-in-Group t c =
    let same = sym c.deref.ensures in
    primary_group c.args.scope.now _ c.in-Group.at _ c.resolve_expression.result _ _
    (ap (primary_view kept_place) c.in-Group.is ∙ view-Group kept_place c.in-Group.at c.in-Group.inner)
    (rw same c.resolve_expression.ensures)
