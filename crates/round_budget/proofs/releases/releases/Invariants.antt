use Rattle.std.proofs.Common.{◌≡◌, map, take}
use Rattle.round_budget.specs.Budgets.{releases_in, numbers}
use Rattle.round_budget.specs.proof.ReleaseAndLineValues.{release_value}
use Rattle.round_budget.proofs.releases.releases.Given as goal

abbrev pub invariant-loop-member : goal.invariant-loop-member
invariant-loop-member l =
    map release_value l.releases.items ≡ releases_in l.design (numbers (take l.member-index l.members)) 0
