use Rattle.std.proofs.Common.{◌≡◌, ◌≤◌, ◌+◌, ◌-◌, ◌^◌, drop}
use Rattle.pals_base.specs.proof.TreeViews.{actions_along, branches_along}
use Rattle.step_code.specs.CappedWeights.{capped}
use Rattle.step_code.specs.CodeLengths.{length_acts, length_branches}
use Rattle.step_compiler.proofs.code_lengths.+length_act.Given as goal

-- the length so far, and the length of the remaining actions
abbrev pub invariant-acts_length-loop-act : goal.invariant-acts_length-loop-act
invariant-acts_length-loop-act l =
    record {
      sum : capped (l.length + length_acts (actions_along (drop l.act-index l.acts)))
          ≡ capped (length_acts (actions_along l.acts));
      most : l.length ≤ 2 ^ 64 - 1;
    }

-- and of branches
abbrev pub invariant-branches_length-loop-branch : goal.invariant-branches_length-loop-branch
invariant-branches_length-loop-branch l =
    record {
      sum : capped (l.length + length_branches (branches_along (drop l.branch-index l.branches)))
          ≡ capped (length_branches (branches_along l.branches));
      most : l.length ≤ 2 ^ 64 - 1;
    }
