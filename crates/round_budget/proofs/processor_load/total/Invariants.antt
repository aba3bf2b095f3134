use Rattle.std.proofs.Common.{◌≡◌, ◌*◌, ◌≤◌, ◌^◌, take}
use Rattle.std.specs.List.{sum_by}
use Rattle.round_budget.specs.Budgets.{most_of, numbers}
use Rattle.round_budget.proofs.processor_load.total.Given as goal

-- the sum of the first members
abbrev pub invariant-loop-member : goal.invariant-loop-member
invariant-loop-member l = record {
  is : l.sum ≡ sum_by (most_of l.codes) (numbers (take l.member-index l.members));
  small : l.sum ≤ l.member-index * 2 ^ 64;
}
