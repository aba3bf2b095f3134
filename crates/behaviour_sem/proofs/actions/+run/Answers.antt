use Rattle.std.proofs.Common.{◌≡◌, ◌∙◌, map, length, sym, ap, subst, Ok, Err, arith, rules, pos, ◌+ℤ◌, ◌≤ℤ◌, ◌<ℤ◌, to_z}
use Rattle.std.proofs.Common.{of_z, w64}
use Rattle.std.proofs.lemmas.Int.{ints, to_z-of_z}
use mir.Val.{SFits}
use Rattle.pals_base.specs.Actions.{Effect, act, acts, act_first, for_each}
use Rattle.pals_base.specs.ForRanges.{numbers}
use Rattle.pals_base.specs.SingleStep.{is_present}
use Rattle.pals_base.specs.ExpressionAndActionTrees.{For}
use Rattle.pals_base.specs.proof.TreeViews.{action_of, actions_along, branches_along}
use Rattle.pals_base.proofs.ForRanges.{no_numbers}
use Rattle.behaviour_sem.specs.proof.EvaluationFrames.{frame_of}
use Rattle.behaviour_sem.specs.proof.PartialStepResults.{IsStepResult, IsBranchResult}
use Rattle.behaviour_sem.specs.proof.ActionExecution.{effect}
use Rattle.behaviour_sem.proofs.ActionMeanings.{act-If, act-For, turn_after, Left-chose-err, for_each-more}
use Rattle.behaviour_sem.proofs.actions.+run.Goals as goal

pub run-returns-in_err-run_first-in-If-clause-runs : goal.run-returns-in_err-run_first-in-If-clause-runs
run-returns-in_err-run_first-in-If-clause-runs t c =
    let frame = frame_of c.args.vars.now.items c.args.inputs.now.held.now in
    let fresh = map is_present c.args.inputs.now.present.now in
    let outs = c.args.outs.now in
    let otherwise = acts (actions_along c.in-If.otherwise.items) frame fresh outs in
    let stop = c.in_err-run_first-in-If.field-0.0 in
    let answers : c.from_residual-in_err-run_first-in-If.result ≡ Err stop = search rules in
    let before = effect c.args.vars.now.items outs in
    let after = effect c.run_first.new.vars.items c.run_first.new.outs in
    let meaning : act_first (branches_along c.deref-in-If.result.now) frame fresh outs otherwise
    ≡ act (action_of c.args.action.now) frame fresh outs =
    (ap (λ bs. act_first (branches_along bs) frame fresh outs otherwise) c.deref-in-If.ensures.value
    ∙ sym (act-If c.in-If.branches c.in-If.otherwise frame fresh outs)
    ∙ ap (λ a. act (action_of a) frame fresh outs) (sym c.in-If.is)) in
    subst (λ m. IsStepResult c.from_residual-in_err-run_first-in-If.result after m) meaning
    (subst (λ r. IsStepResult r after (act_first (branches_along c.deref-in-If.result.now) frame fresh outs otherwise))
    (sym answers)
    (Left-chose-err stop after before after otherwise
    (act_first (branches_along c.deref-in-If.result.now) frame fresh outs otherwise)
    (c.in_err-run_first-in-If.ensures.runs otherwise)))

pub run-returns-then-branch-clause-runs : goal.run-returns-then-branch-clause-runs
run-returns-then-branch-clause-runs t c =
    let frame = frame_of c.args.vars.now.items c.args.inputs.now.held.now in
    let fresh = map is_present c.args.inputs.now.present.now in
    let outs = c.args.outs.now in
    let otherwise = acts (actions_along c.in-If.otherwise.items) frame fresh outs in
    let before = effect c.args.vars.now.items outs in
    let after = effect c.run_first.new.vars.items c.run_first.new.outs in
    let meant = act_first (branches_along c.deref-in-If.result.now) frame fresh outs otherwise in
    ap (λ a. act (action_of a) frame fresh outs) c.in-If.is
    ∙ act-If c.in-If.branches c.in-If.otherwise frame fresh outs
    ∙ sym (ap (λ bs. act_first (branches_along bs) frame fresh outs otherwise) c.deref-in-If.ensures.value)
    ∙ subst (λ found. IsBranchResult (Ok found) after before otherwise meant) c.if-branch.true
    (c.in_ok-run_first-in-If.ensures.runs otherwise)

pub run-returns-else-branch-clause-runs : goal.run-returns-else-branch-clause-runs
run-returns-else-branch-clause-runs t c =
    let held = c.args.inputs.now.held.now in
    let frame = frame_of c.args.vars.now.items held in
    let fresh = map is_present c.args.inputs.now.present.now in
    let outs = c.args.outs.now in
    let others = c.in-If.otherwise.items in
    let otherwise = acts (actions_along others) frame fresh outs in
    let before = effect c.args.vars.now.items outs in
    let between = effect c.run_first.new.vars.items c.run_first.new.outs in
    let meant = act_first (branches_along c.deref-in-If.result.now) frame fresh outs otherwise in
    let chose =
    subst (λ found. IsBranchResult (Ok found) between before otherwise meant) c.if-branch.false
    (c.in_ok-run_first-in-If.ensures.runs otherwise) in
    let same =
    ap (λ as'. acts (actions_along as') (frame_of between.vars held) fresh between.outs)
    c.deref-else-branch.ensures.value
    ∙ ap (λ (e : Effect). acts (actions_along others) (frame_of e.vars held) fresh e.outs) chose.1
    ∙ sym chose.0
    ∙ ap (λ bs. act_first (branches_along bs) frame fresh outs otherwise) c.deref-in-If.ensures.value
    ∙ sym (act-If c.in-If.branches c.in-If.otherwise frame fresh outs)
    ∙ ap (λ a. act (action_of a) frame fresh outs) (sym c.in-If.is) in
    subst (λ m. IsStepResult c.run_all.result (effect c.run_all.new.vars.items c.run_all.new.outs) m) same
    c.run_all.ensures.runs

pub run-returns-in-For-clause-runs : goal.run-returns-in-For-clause-runs
run-returns-in-For-clause-runs t c =
    let vars = c.args.vars.now.items in
    let held = c.args.inputs.now.held.now in
    let fresh = map is_present c.args.inputs.now.present.now in
    let outs = c.args.outs.now in
    let low : SFits w64 c.in-For.low = search rules in
    let high : SFits w64 c.in-For.high = search rules in
    let frame = frame_of vars held in
    let same =
    ap (λ as'. act (For c.in-For.low c.in-For.high (actions_along as')) frame fresh outs) c.deref-in-For.ensures.value
    ∙ sym (act-For c.in-For.low c.in-For.high c.in-For.body frame fresh outs)
    ∙ ap (λ a. act (action_of a) frame fresh outs) (sym c.in-For.is) in
    let ran = simp to_z-of_z at c.run_turns.ensures.runs in
    subst (λ m. IsStepResult c.run_turns.result (effect c.run_turns.new.vars.items c.run_turns.new.outs) m) same ran

pub run_turns-loop-number-preserved : goal.run_turns-loop-number-preserved
run_turns-loop-number-preserved t c =
    let held = c.args.inputs.now.held.now in
    let fresh = map is_present c.args.inputs.now.present.now in
    let acts' = actions_along c.args.body.now in
    let body = turn_after (length c.args.vars.now.items) acts' held fresh in
    let number = to_z w64 c.loop-number.number-bits in
    let high = to_z w64 (of_z w64 c.args.high) in
    let before = effect c.loop-number.vars.items c.loop-number.outs in
    let after = effect c.run_turn.new.vars.items c.run_turn.new.outs in
    let more : number ≤ℤ high = grind (arith, ints) in
    let next : to_z w64 (of_z w64 (number +ℤ pos 1)) ≡ number +ℤ pos 1 = grind (arith, ints) in
    let ran : body number before ≡ Ok after =
    (sym (ap (λ d. turn_after d acts' held fresh number before) c.loop-number.invariant.len)
    ∙ c.in_ok-run_turn.ensures.runs) in
    record {
      len = c.in_ok-run_turn.ensures.len ∙ c.loop-number.invariant.len;
      rest =
          ap (λ n. for_each (numbers n high) body after) next ∙ for_each-more number high body before after more ran
          ∙ c.loop-number.invariant.rest;
    }

pub run_turns-returns-clause-runs : goal.run_turns-returns-clause-runs
run_turns-returns-clause-runs t c =
    let low = c.ranges.low in
    let high = c.ranges.high in
    let body =
    turn_after (length c.args.vars.now.items) (actions_along c.args.body.now) c.args.inputs.now.held.now
    (map is_present c.args.inputs.now.present.now) in
    let number = to_z w64 c.loop-number.number-bits in
    let over : c.args.high <ℤ number = grind (arith, ints) in
    let all = simp to_z-of_z at c.loop-number.invariant.rest in
    sym all ∙ ap (λ ns. for_each ns body (effect c.loop-number.vars.items c.loop-number.outs))
    (no_numbers number c.args.high over)

pub run_turns-returns-in_ok-run_turn-clause-runs : goal.run_turns-returns-in_ok-run_turn-clause-runs
run_turns-returns-in_ok-run_turn-clause-runs t c =
    let low = c.ranges.low in
    let high = c.ranges.high in
    let held = c.args.inputs.now.held.now in
    let fresh = map is_present c.args.inputs.now.present.now in
    let acts' = actions_along c.args.body.now in
    let body = turn_after (length c.args.vars.now.items) acts' held fresh in
    let number = to_z w64 c.loop-number.number-bits in
    let before = effect c.loop-number.vars.items c.loop-number.outs in
    let after = effect c.run_turn.new.vars.items c.run_turn.new.outs in
    let more : number ≤ℤ c.args.high = grind (arith, ints) in
    let over : c.args.high <ℤ (number +ℤ pos 1) = grind (arith, ints) in
    let all = simp to_z-of_z at c.loop-number.invariant.rest in
    let ran : body number before ≡ Ok after =
    (sym (ap (λ d. turn_after d acts' held fresh number before) c.loop-number.invariant.len)
    ∙ c.in_ok-run_turn.ensures.runs) in
    sym all
    ∙ sym (for_each-more number c.args.high body before after more ran)
    ∙ ap (λ ns. for_each ns body after) (no_numbers (number +ℤ pos 1) c.args.high over)
