use Rattle.std.proofs.Common.{◌≡◌, ◌++◌, length, drop}
use Rattle.pals_base.specs.proof.TreeViews.{actions_along, branches_along}
use Rattle.step_compiler.specs.ExpressionAndActionInstructions.{code_acts, code_branches}
use Rattle.step_compiler.proofs.actions.+push_act.Given as goal

-- the code so far, and the code of the remaining actions
abbrev pub invariant-push_acts-loop-act : goal.invariant-push_acts-loop-act
invariant-push_acts-loop-act l =
    l.code ++ code_acts (actions_along (drop l.act-index l.acts)) l.variables (length l.code)
    ≡ l.initial.code ++ code_acts (actions_along l.acts) l.variables (length l.initial.code)

-- and of branches
abbrev pub invariant-push_branches-loop-branch : goal.invariant-push_branches-loop-branch
invariant-push_branches-loop-branch l =
    l.code ++ code_branches (branches_along (drop l.branch-index l.branches)) l.variables l.end (length l.code)
    ≡ l.initial.code ++ code_branches (branches_along l.branches) l.variables l.end (length l.initial.code)
