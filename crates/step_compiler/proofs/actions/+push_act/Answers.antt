use Rattle.std.proofs.Common.{◌≡◌, ◌∙◌, ◌+◌, [], ◌∷◌, ◌++◌, length, drop, refl, sym, ap, arith, rules}
use Rattle.std.proofs.lemmas.Int.{to_z-of_z}
use mir.Syntax.{w64}
use mir.Val.{SFits}
use Rattle.list_lemmas.proofs.Results.{OnOk-weaker}
use Rattle.pals_base.specs.proof.TreeViews.{tree_of, action_of, actions_along, branches_along}
use Rattle.pals_base.specs.ExpressionAndActionTrees.{For, Where, NoBranch}
use Rattle.pals_base.proofs.TreeViews.{action_of-If, action_of-For}
use Rattle.step_code.specs.declared.instr.Instr.TheVariants as code
use Rattle.step_code.specs.CodeLengths.{length_of, length_act, length_acts, length_branches}
use Rattle.step_compiler.specs.ExpressionAndActionInstructions.{code_of, code_act, code_acts, code_branches}
use Rattle.step_compiler.proofs.PlacedCodeLengths.{code-length, act-length, branches-length}
use Rattle.step_compiler.proofs.AppendedCode.{both_parts, more_parts, next_act, next_branch, between, between_two}
use Rattle.step_compiler.proofs.LayoutSplits.{branches_split}
use Rattle.step_compiler.proofs.actions.+push_act.Goals as goal

pub push_act-returns-in-For : goal.push_act-returns-in-For
push_act-returns-in-For t c =
    let old = c.args.code.now in
    let n = c.args.variables in
    let low : SFits w64 c.in-For.low = search rules in
    let high : SFits w64 c.in-For.high = search rules in
    let done = simp to_z-of_z at c.push_for.ensures in
    let whole =
    ap action_of c.in-For.is ∙ action_of-For c.in-For.low c.in-For.high c.in-For.body
    ∙ ap (λ xs. For c.in-For.low c.in-For.high (actions_along xs)) (sym c.deref-in-For.ensures.value) in
    OnOk-weaker c.push_for.result _ _ (λ is. is ∙ ap (λ a. old ++ code_act a n (length old)) (sym whole)) done

pub push_acts-loop-act-preserved : goal.push_acts-loop-act-preserved
push_acts-loop-act-preserved t c =
    let cur = c.loop-act.code in
    let n = c.args.variables in
    let acts = c.args.acts.now in
    let i = c.loop-act.act-index in
    let a = action_of c.act-item.result in
    let left = next_act acts i c.act-item.result c.loop-act-test.true c.act-item.is in
    more_parts cur c.push_act.new.code (code_act a n (length cur)) (length_act a)
    (code_acts (actions_along (drop (i + 1) acts)) n) c.in_ok-push_act.ensures (act-length a n (length cur))
    ∙ ap (λ as'. cur ++ code_acts as' n (length cur)) (sym left) ∙ c.loop-act.invariant

pub push_branch-returns : goal.push_branch-returns
push_branch-returns t c =
    let old = c.args.code.now in
    let n = c.args.variables in
    let g = tree_of c.args.branch.now.guard in
    let acts = actions_along c.deref-2.result.now in
    let as1 = ap actions_along c.deref.ensures.value in
    let as2 = ap actions_along c.deref-2.ensures.value in
    let m = length_acts (actions_along c.args.branch.now.acts.items) in
    let same = ap length_acts as1 in
    let next =
    c.in_ok-next.ensures (length_of g + m + 2)
    (omega (
      arith,
      c.expr_length.ensures,
      c.acts_length.ensures,
      c.saturating_add-length.ensures,
      c.saturating_add.ensures,
    )) in
    let next_is : c.in_ok-next.next ≡ length old + length_of g + m + 2 = omega (arith, c.len.ensures) in
    OnOk-weaker c.push-2.result _ _
    (λ is. between_two old c.push_expr.new.code c.push.new.self c.push_acts.new.code c.push-2.new.self
    (code_of g (length old)) (code.JumpZero c.in_ok-next.next) (code.Jump c.args.end) (length_of g)
    (code_acts acts n)
    c.in_ok-push_expr.ensures (code-length g (length old)) c.in_ok-push.ensures.ok c.in_ok-push_acts.ensures is
    ∙ ap (λ q. old ++ (code_of g (length old) ++ code.JumpZero q
    ∷ (code_acts acts n (length old + length_of g + 1) ++ code.Jump c.args.end ∷ []))) next_is
    ∙ ap (λ as'. old ++ (code_of g (length old) ++ code.JumpZero (length old + length_of g + m + 2)
    ∷ (code_acts as' n (length old + length_of g + 1) ++ code.Jump c.args.end ∷ []))) as2)
    c.push-2.ensures.ok

pub push_branches-loop-branch-preserved : goal.push_branches-loop-branch-preserved
push_branches-loop-branch-preserved t c =
    let cur = c.loop-branch.code in
    let n = c.args.variables in
    let end = c.args.end in
    let all = c.args.branches.now in
    let i = c.loop-branch.branch-index in
    let item = c.branch-item.result in
    let g = tree_of item.guard in
    let as' = actions_along item.acts.items in
    let later = branches_along (drop (i + 1) all) in
    let one = Where g as' NoBranch in
    let left = next_branch all i item c.loop-branch-test.true c.branch-item.is in
    more_parts cur c.push_branch.new.code (code_branches one n end (length cur)) (length_branches one)
    (code_branches later n end) c.in_ok-push_branch.ensures (branches-length one n end (length cur))
    ∙ ap (λ xs. cur ++ xs) (branches_split g as' later n end (length cur))
    ∙ ap (λ bs. cur ++ code_branches bs n end (length cur)) (sym left) ∙ c.loop-branch.invariant

pub push_for-returns : goal.push_for-returns
push_for-returns t c =
    let old = c.args.code.now in
    let n = c.args.variables in
    let body = actions_along c.args.body.now in
    let m = length_acts body in
    let to = c.in_ok-to.ensures 1 refl in
    let exit = c.in_ok-exit.ensures (m + 2) (omega (arith, c.acts_length.ensures, c.saturating_add.ensures)) in
    let to_is : c.in_ok-to.to ≡ length old + 1 = omega (arith, c.len.ensures) in
    let exit_is : c.in_ok-exit.exit ≡ length old + m + 2 = omega (arith, c.len-2.ensures) in
    let low : SFits w64 c.args.low = search rules in
    let high : SFits w64 c.args.high = search rules in
    let start = simp to_z-of_z at c.in_ok-push.ensures.ok in
    let last = simp to_z-of_z at c.push-2.ensures.ok in
    OnOk-weaker c.push-2.result _ _
    (λ is. between old c.push.new.self c.push_acts.new.code c.push-2.new.self
    (code.LoopStart n c.args.low c.args.high c.in_ok-exit.exit ∷ []) (code.LoopNext n c.args.high c.in_ok-to.to) 1
    (code_acts body c.in_ok-next_depth.field-0)
    start refl c.in_ok-push_acts.ensures is
    ∙ ap (λ d. old ++ code.LoopStart n c.args.low c.args.high c.in_ok-exit.exit
    ∷ (code_acts body d (length old + 1) ++ code.LoopNext n c.args.high c.in_ok-to.to ∷ [])) c.in_ok-next_depth.ensures
    ∙ ap (λ q. old ++ code.LoopStart n c.args.low c.args.high q
    ∷ (code_acts body (n + 1) (length old + 1) ++ code.LoopNext n c.args.high c.in_ok-to.to ∷ [])) exit_is
    ∙ ap (λ q. old ++ code.LoopStart n c.args.low c.args.high (length old + m + 2)
    ∷ (code_acts body (n + 1) (length old + 1) ++ code.LoopNext n c.args.high q ∷ [])) to_is)
    last

pub push_act-returns-in_ok-push_branches-in-If : goal.push_act-returns-in_ok-push_branches-in-If
push_act-returns-in_ok-push_branches-in-If t c =
    let old = c.args.code.now in
    let n = c.args.variables in
    let p = length old in
    let bs = branches_along c.in-If.branches.items in
    let os = actions_along c.in-If.otherwise.items in
    let bs1 = ap (λ xs. length_branches (branches_along xs)) c.deref.ensures.value in
    let os1 = ap (λ xs. length_acts (actions_along xs)) c.deref-in-If.ensures.value in
    let bs2 = ap branches_along c.deref-in-If-2.ensures.value in
    let os2 = ap actions_along c.deref-in-If-3.ensures.value in
    let whole = ap action_of c.in-If.is ∙ action_of-If c.in-If.branches c.in-If.otherwise in
    let end = c.in_ok-end-in-If.end in
    let lb = length_branches bs in
    let la = length_acts os in
    let end_at =
    c.in_ok-end-in-If.ensures (lb + la)
    (omega (arith, c.branches_length.ensures, c.acts_length.ensures, c.saturating_add-length.ensures)) in
    let end_is : end ≡ p + lb + la = omega (arith, c.len.ensures) in
    let first = c.in_ok-push_branches-in-If.ensures ∙ ap (λ x. old ++ code_branches x n end p) bs2 in
    OnOk-weaker c.push_acts.result _ _
    (λ is. both_parts old c.push_branches.new.code c.push_acts.new.code (code_branches bs n end p) lb (code_acts os n)
    first (branches-length bs n end p)
    (is ∙ ap (λ x. c.push_branches.new.code ++ code_acts x n (length c.push_branches.new.code)) os2)
    ∙ ap (λ q. old ++ (code_branches bs n q p ++ code_acts os n (p + lb))) end_is
    ∙ ap (λ a. old ++ code_act a n p) (sym whole))
    c.push_acts.ensures
