use Rattle.std.proofs.Common.{◌≡◌, drop}
use Rattle.std.specs.Prelude.{max}
use Rattle.pals_base.specs.proof.TreeViews.{actions_along, branches_along}
use Rattle.step_compiler.specs.LoopDepths.{depth_acts, depth_branches}
use Rattle.step_compiler.proofs.loop_depths.+depth.Given as goal

abbrev pub invariant-acts_depth-loop-act : goal.invariant-acts_depth-loop-act
invariant-acts_depth-loop-act l =
    max l.depth (depth_acts (actions_along (drop l.act-index l.acts))) ≡ depth_acts (actions_along l.acts)

abbrev pub invariant-branches_depth-loop-branch : goal.invariant-branches_depth-loop-branch
invariant-branches_depth-loop-branch l =
    max l.depth (depth_branches (branches_along (drop l.branch-index l.branches)))
    ≡ depth_branches (branches_along l.branches)
