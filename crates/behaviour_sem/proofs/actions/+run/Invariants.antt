use Rattle.std.proofs.Common.{◌≡◌, map, length, drop}
use Rattle.std.specs.Prelude.{Result}
use Rattle.pals_base.specs.declared.basic_types.Trap.{Trap}
use Rattle.pals_base.specs.Actions.{Effect, acts, act_first, for_each}
use Rattle.pals_base.specs.ForRanges.{numbers}
use Rattle.pals_base.specs.SingleStep.{is_present}
use Rattle.pals_base.specs.proof.TreeViews.{actions_along, branches_along}
use Rattle.behaviour_sem.specs.proof.EvaluationFrames.{frame_of}
use Rattle.behaviour_sem.specs.proof.ActionExecution.{effect}
use Rattle.behaviour_sem.proofs.ActionMeanings.{turn_after}
use Rattle.behaviour_sem.proofs.actions.+run.Given as goal

-- the remaining actions, from the variables and outputs so far, have the effect of all
abbrev pub invariant-run_all-loop-action : goal.invariant-run_all-loop-action
invariant-run_all-loop-action l =
    let fresh = map is_present l.inputs.present.now in
    record {
      len : length l.vars.items ≡ length l.fn.vars.items;
      rest : acts (actions_along (drop l.action-index l.actions)) (frame_of l.vars.items l.inputs.held.now) fresh l.outs
          ≡ acts (actions_along l.actions) (frame_of l.fn.vars.items l.inputs.held.now) fresh l.fn.outs;
    }

-- nothing has changed, and no guard so far was true
abbrev pub invariant-run_first-loop-branch : goal.invariant-run_first-loop-branch
invariant-run_first-loop-branch l =
    let frame = frame_of l.fn.vars.items l.inputs.held.now in
    let fresh = map is_present l.inputs.present.now in
    record {
      vars : l.vars.items ≡ l.fn.vars.items;
      outs : l.outs ≡ l.fn.outs;
      rest : (otherwise : Result Effect Trap)
          → act_first (branches_along (drop l.branch-index l.branches)) frame fresh l.fn.outs otherwise
          ≡ act_first (branches_along l.branches) frame fresh l.fn.outs otherwise;
    }

-- the remaining numbers, from the variables and outputs so far, have the effect of all
abbrev pub invariant-run_turns-loop-number : goal.invariant-run_turns-loop-number
invariant-run_turns-loop-number l =
    let body =
    turn_after (length l.fn.vars.items) (actions_along l.body) l.inputs.held.now
    (map is_present l.inputs.present.now) in
    record {
      len : length l.vars.items ≡ length l.fn.vars.items;
      rest : for_each (numbers l.number l.high) body (effect l.vars.items l.outs)
          ≡ for_each (numbers l.low l.high) body (effect l.fn.vars.items l.fn.outs);
    }
