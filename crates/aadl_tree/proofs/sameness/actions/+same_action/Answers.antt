use Rattle.std.proofs.Common.{◌≡◌, true, arith, ap, sym, ◌∙◌, rules}
use Rattle.aadl_tree.specs.proof.ActionViews.{action_view}
use Rattle.aadl_tree.specs.proof.PlaceMaps.{no_place}
use Rattle.aadl_tree.proofs.ActionVariants.{only_assign, only_send, only_choose, only_loop}
use Rattle.aadl_tree.proofs.ActionViews.{view-Assign, view-Send, view-If, view-For, view-out-choice, view-out-loop}
use Rattle.aadl_tree.proofs.EqualViewLengths.{mores-length, elsifs-length}
use Rattle.aadl_tree.proofs.sameness.actions.+same_action.Goals as goal
use Rattle.aadl_tree.proofs.sameness.actions.+same_action.Goals.{same_choice-then-same_expression}
use Rattle.aadl_tree.proofs.sameness.actions.+same_action.Goals.{same_choice-else-same_expression}
use Rattle.aadl_tree.proofs.sameness.actions.+same_action.Goals.{same_choice-then-same_actions}
use Rattle.aadl_tree.proofs.sameness.actions.+same_action.Goals.{same_choice-else-same_actions}

pub same_mores-returns-then-left-right : goal.same_mores-returns-then-left-right
same_mores-returns-then-left-right t c =
    (λ yes. absurd cc, λ same. let e = mores-length _ _ same in absurd (omega arith))

pub same_elsifs-returns-then-left-right : goal.same_elsifs-returns-then-left-right
same_elsifs-returns-then-left-right t c =
    (λ yes. absurd cc, λ same. let e = elsifs-length _ _ same in absurd (omega arith))

pub same_action-returns-in_default : goal.same_action-returns-in_default
same_action-returns-in_default t c =
    let here = c.in_default in
    let left = ap (action_view no_place) here.is-0 ∙ view-Assign no_place here.field-0-0 here.field-1-0 in (
      λ yes. absurd cc,
      λ same. let found = only_assign c.args.right.now _ _ (sym same ∙ left) in
          absurd (here.not-Assign-1 found.0 found.1 found.2),
    )

pub same_action-returns-in_default-2 : goal.same_action-returns-in_default-2
same_action-returns-in_default-2 t c =
    let here = c.in_default in
    let left = ap (action_view no_place) here.is-0 ∙ view-Send no_place here.field-0-0 here.field-1-0 in (
      λ yes. absurd cc,
      λ same. let found = only_send c.args.right.now _ _ (sym same ∙ left) in
          absurd (here.not-Send-1 found.0 found.1 found.2),
    )

pub same_action-returns-in_default-3 : goal.same_action-returns-in_default-3
same_action-returns-in_default-3 t c =
    let here = c.in_default in
    let left =
    ap (action_view no_place) here.is-0 ∙ view-If no_place here.field-0-0
    ∙ view-out-choice no_place here.field-0-0.value in (
      λ yes. absurd cc,
      λ same. let found = only_choose c.args.right.now _ _ _ _ (sym same ∙ left) in
          absurd (here.not-If-1 found.0 found.1),
    )

pub same_action-returns-in_default-4 : goal.same_action-returns-in_default-4
same_action-returns-in_default-4 t c =
    let here = c.in_default in
    let left =
    ap (action_view no_place) here.is-0 ∙ view-For no_place here.field-0-0
    ∙ view-out-loop no_place here.field-0-0.value in (
      λ yes. absurd cc,
      λ same. let found = only_loop c.args.right.now _ _ _ _ _ _ (sym same ∙ left) in
          absurd (here.not-For-1 found.0 found.1),
    )

pub same_choice-returns-then-same_elsifs : goal.same_choice-returns-then-same_elsifs
same_choice-returns-then-same_elsifs t c = search (rules, view-out-choice)

pub same_choice-returns-else-same_elsifs : goal.same_choice-returns-else-same_elsifs
same_choice-returns-else-same_elsifs t c =
    let left = view-out-choice no_place c.args.left.now in
    let right = view-out-choice no_place c.args.right.now in
    let no = c.if-same_elsifs.false in (
      λ yes. absurd cc,
      λ same. elim c.if-same_actions.branch [
        | same_choice-then-same_actions w ↦ w.value-is
            ∙ (rw (w.deref.ensures.value, w.deref-then-same_actions.ensures.value) at w.same_elsifs.ensures).1 (cc)
        | same_choice-else-same_actions w ↦ (
            let first : c.if-same_expression.value ≡ true = elim c.if-same_expression.branch [
              | same_choice-then-same_expression v ↦ v.value-is ∙ v.same_actions.ensures.1 (cc)
              | same_choice-else-same_expression v ↦
                  (let g = c.same_expression.ensures.1 (cc) in let n = v.if-same_expression.false in absurd cc)
            ] in
            let f = w.if-same_actions.false in absurd cc)
      ],
    )

pub same_action-returns-then-same : goal.same_action-returns-then-same
same_action-returns-then-same t c =
    let left =
    ap (action_view no_place) c.in-Assign-Assign.is-0
    ∙ view-Assign no_place c.in-Assign-Assign.target c.in-Assign-Assign.value in
    let right =
    ap (action_view no_place) c.in-Assign-Assign.is-1
    ∙ view-Assign no_place c.in-Assign-Assign.other_target c.in-Assign-Assign.other_value in
    let names = c.same.ensures.0 c.if-same.true in
    (λ yes. let e = c.same_expression.ensures.0 yes in cc, λ both. c.same_expression.ensures.1 (cc))

pub same_action-returns-else-same : goal.same_action-returns-else-same
same_action-returns-else-same t c =
    let left =
    ap (action_view no_place) c.in-Assign-Assign.is-0
    ∙ view-Assign no_place c.in-Assign-Assign.target c.in-Assign-Assign.value in
    let right =
    ap (action_view no_place) c.in-Assign-Assign.is-1
    ∙ view-Assign no_place c.in-Assign-Assign.other_target c.in-Assign-Assign.other_value in
    let no = c.if-same.false in
    (λ yes. absurd cc, λ both. c.same.ensures.1 (cc))

pub same_action-returns-then-same-2 : goal.same_action-returns-then-same-2
same_action-returns-then-same-2 t c =
    let left =
    ap (action_view no_place) c.in-Send-Send.is-0 ∙ view-Send no_place c.in-Send-Send.port c.in-Send-Send.value in
    let right =
    ap (action_view no_place) c.in-Send-Send.is-1
    ∙ view-Send no_place c.in-Send-Send.other_port c.in-Send-Send.other_value in
    let names = c.same-in-Send-Send.ensures.0 c.if-same-2.true in (
      λ yes. let e = c.same_expression-then-same-2.ensures.0 yes in
          cc,
      λ both. c.same_expression-then-same-2.ensures.1 (cc),
    )

pub same_action-returns-else-same-2 : goal.same_action-returns-else-same-2
same_action-returns-else-same-2 t c =
    let left =
    ap (action_view no_place) c.in-Send-Send.is-0 ∙ view-Send no_place c.in-Send-Send.port c.in-Send-Send.value in
    let right =
    ap (action_view no_place) c.in-Send-Send.is-1
    ∙ view-Send no_place c.in-Send-Send.other_port c.in-Send-Send.other_value in
    let no = c.if-same-2.false in
    (λ yes. absurd cc, λ both. c.same-in-Send-Send.ensures.1 (cc))
