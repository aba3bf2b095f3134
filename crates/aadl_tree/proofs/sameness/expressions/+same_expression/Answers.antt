use mathlib.Core.Bool.{beq}
use Rattle.std.proofs.Common.{◌≡◌, Bool, true, false, refl, arith, ap, sym, ◌∙◌}
use Rattle.std.specs.Prelude.{option_map}
use Rattle.aadl_tree.specs.proof.ExpressionViews.{primary_view, factor_view, leading_view, term_view}
use Rattle.aadl_tree.specs.proof.PlaceMaps.{no_place}
use Rattle.aadl_tree.specs.declared.expressions.Factor.TheViews.{out-Sum}
use Rattle.aadl_tree.proofs.ExpressionViews.{view-out-expression, view-out-sum, view-term, view-Whole, view-Truth}
use Rattle.aadl_tree.proofs.ExpressionViews.{view-Named, view-Group, view-Abs, view-Not, view-Plain}
use Rattle.aadl_tree.proofs.PrimaryVariants.{only_whole, only_truth, only_named, only_group}
use Rattle.aadl_tree.proofs.FactorVariants.{only_absolute, only_negated, only_bare}
use Rattle.aadl_tree.proofs.EqualViewLengths.{factors-length, terms-length, relations-length}
use Rattle.aadl_tree.proofs.sameness.expressions.+same_expression.Goals as goal
use Rattle.aadl_tree.proofs.sameness.expressions.+same_expression.Goals.{same_sum-then-same_option}
use Rattle.aadl_tree.proofs.sameness.expressions.+same_expression.Goals.{same_sum-else-same_option}

pub same_factors-returns-then-left-right : goal.same_factors-returns-then-left-right
same_factors-returns-then-left-right t c =
    (λ yes. absurd cc, λ same. let e = factors-length _ _ same in absurd (omega arith))

pub same_terms-returns-then-left-right : goal.same_terms-returns-then-left-right
same_terms-returns-then-left-right t c =
    (λ yes. absurd cc, λ same. let e = terms-length _ _ same in absurd (omega arith))

pub same_relations-returns-then-left-right : goal.same_relations-returns-then-left-right
same_relations-returns-then-left-right t c =
    (λ yes. absurd cc, λ same. let e = relations-length _ _ same in absurd (omega arith))

pub same_expression-returns-then-same_relation : goal.same_expression-returns-then-same_relation
same_expression-returns-then-same_relation t c =
    let left = view-out-expression no_place c.args.left.now in
    let right = view-out-expression no_place c.args.right.now in
    let firsts = c.same_relation.ensures.0 c.if-same_relation.true in
    let rests = rw (c.deref.ensures.value, c.deref-then-same_relation.ensures.value) at c.same_relations.ensures in
    (λ yes. let e = rests.0 yes in cc, λ same. rests.1 (cc))

pub same_term-returns-then-same_factor : goal.same_term-returns-then-same_factor
same_term-returns-then-same_factor t c =
    let left = view-term no_place c.args.left.now.first c.args.left.now.rest in
    let right = view-term no_place c.args.right.now.first c.args.right.now.rest in
    let firsts = c.same_factor.ensures.0 c.if-same_factor.true in
    let rests = rw (c.deref.ensures.value, c.deref-then-same_factor.ensures.value) at c.same_factors.ensures in
    (λ yes. let e = rests.0 yes in cc, λ same. rests.1 (cc))

pub same_sum-returns-then-same_term : goal.same_sum-returns-then-same_term
same_sum-returns-then-same_term t c =
    let left = view-out-sum no_place c.args.left.now in
    let right = view-out-sum no_place c.args.right.now in
    let signs : option_map (leading_view no_place) (out-Sum c.args.left.now).sign
    ≡ option_map (leading_view no_place) (out-Sum c.args.right.now).sign = elim c.if-same_option.branch [
      | same_sum-then-same_option w ↦ c.same_option.ensures.0 w.if-same_option.true
      | same_sum-else-same_option w ↦ (let e = w.value-is in let f = c.if-same_term.true in absurd cc)
    ] in
    let firsts : term_view no_place (out-Sum c.args.left.now).first
    ≡ term_view no_place (out-Sum c.args.right.now).first = elim c.if-same_option.branch [
      | same_sum-then-same_option w ↦ w.same_term.ensures.0 (sym w.value-is ∙ c.if-same_term.true)
      | same_sum-else-same_option w ↦ (let e = w.value-is in let f = c.if-same_term.true in absurd cc)
    ] in
    let rests = rw (c.deref.ensures.value, c.deref-then-same_term.ensures.value) at c.same_terms.ensures in
    (λ yes. let e = rests.0 yes in cc, λ same. rests.1 (cc))

pub same_primary-returns-in_default : goal.same_primary-returns-in_default
same_primary-returns-in_default t c =
    let here = c.in_default in
    let left = ap (primary_view no_place) here.is-0 ∙ view-Whole no_place here.field-0-0 here.field-1-0 in (
      λ yes. absurd cc,
      λ same. let found = only_whole c.args.right.now here.field-1-0 (sym same ∙ left) in
          absurd (here.not-Whole-1 found.0 found.1 found.2),
    )

pub same_primary-returns-in_default-2 : goal.same_primary-returns-in_default-2
same_primary-returns-in_default-2 t c =
    let here = c.in_default in
    let left = ap (primary_view no_place) here.is-0 ∙ view-Truth no_place here.field-0-0 here.field-1-0 in (
      λ yes. absurd cc,
      λ same. let found = only_truth c.args.right.now here.field-1-0 (sym same ∙ left) in
          absurd (here.not-Truth-1 found.0 found.1 found.2),
    )

pub same_primary-returns-in_default-3 : goal.same_primary-returns-in_default-3
same_primary-returns-in_default-3 t c =
    let here = c.in_default in
    let left = ap (primary_view no_place) here.is-0 ∙ view-Named no_place here.field-0-0 here.field-1-0 in (
      λ yes. absurd cc,
      λ same. let found = only_named c.args.right.now _ here.field-1-0 (sym same ∙ left) in
          absurd (here.not-Named-1 found.0 found.1 found.2),
    )

alike : (a b : Bool) → beq a b ≡ true → a ≡ b
alike true true e = refl
alike false false e = refl
alike true false e = absurd cc
alike false true e = absurd cc

same_flags : (a b : Bool) → a ≡ b → beq a b ≡ true
same_flags true true e = refl
same_flags false false e = refl
same_flags true false e = absurd cc
same_flags false true e = absurd cc

pub same_primary-returns-then-same : goal.same_primary-returns-then-same
same_primary-returns-then-same t c =
    let left =
    ap (primary_view no_place) c.in-Named-Named.is-0
    ∙ view-Named no_place c.in-Named-Named.name c.in-Named-Named.fresh in
    let right =
    ap (primary_view no_place) c.in-Named-Named.is-1
    ∙ view-Named no_place c.in-Named-Named.other_name c.in-Named-Named.other_fresh in
    let names = c.same.ensures.0 c.if-same.true in (
      λ yes. let e = alike c.in-Named-Named.fresh c.in-Named-Named.other_fresh yes in
          cc,
      λ both. same_flags c.in-Named-Named.fresh c.in-Named-Named.other_fresh (cc),
    )

pub same_primary-returns-else-same : goal.same_primary-returns-else-same
same_primary-returns-else-same t c =
    let left =
    ap (primary_view no_place) c.in-Named-Named.is-0
    ∙ view-Named no_place c.in-Named-Named.name c.in-Named-Named.fresh in
    let right =
    ap (primary_view no_place) c.in-Named-Named.is-1
    ∙ view-Named no_place c.in-Named-Named.other_name c.in-Named-Named.other_fresh in
    let no = c.if-same.false in
    (λ yes. absurd cc, λ both. c.same.ensures.1 (cc))

pub same_factor-returns-in_default : goal.same_factor-returns-in_default
same_factor-returns-in_default t c =
    let here = c.in_default in
    let left = ap (factor_view no_place) here.is-0 ∙ view-Abs no_place here.field-0-0 here.field-1-0 in (
      λ yes. absurd cc,
      λ same. let found = only_absolute c.args.right.now _ (sym same ∙ left) in
          absurd (here.not-Abs-1 found.0 found.1 found.2),
    )

pub same_factor-returns-in_default-2 : goal.same_factor-returns-in_default-2
same_factor-returns-in_default-2 t c =
    let here = c.in_default in
    let left = ap (factor_view no_place) here.is-0 ∙ view-Not no_place here.field-0-0 here.field-1-0 in (
      λ yes. absurd cc,
      λ same. let found = only_negated c.args.right.now _ (sym same ∙ left) in
          absurd (here.not-Not-1 found.0 found.1 found.2),
    )

pub same_factor-returns-in_default-3 : goal.same_factor-returns-in_default-3
same_factor-returns-in_default-3 t c =
    let here = c.in_default in
    let left = ap (factor_view no_place) here.is-0 ∙ view-Plain no_place here.field-0-0 in (
      λ yes. absurd cc,
      λ same. let found = only_bare c.args.right.now _ (sym same ∙ left) in
          absurd (here.not-Plain-1 found.0 found.1),
    )

pub same_primary-returns-in_default-4 : goal.same_primary-returns-in_default-4
same_primary-returns-in_default-4 t c =
    let here = c.in_default in
    let left = ap (primary_view no_place) here.is-0 ∙ view-Group no_place here.field-0-0 here.field-1-0 in (
      λ yes. absurd cc,
      λ same. let found = only_group c.args.right.now _ (sym same ∙ left) in
          absurd (here.not-Group-1 found.0 found.1 found.2),
    )
