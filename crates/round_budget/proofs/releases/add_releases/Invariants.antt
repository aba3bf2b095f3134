use Rattle.std.proofs.Common.{◌≡◌, ◌++◌, map}
use Rattle.pals_base.specs.UpwardNumbers.{upwards}
use Rattle.round_budget.specs.Budgets.{release_of}
use Rattle.round_budget.specs.proof.ReleaseAndLineValues.{release_value}
use Rattle.round_budget.proofs.releases.add_releases.Given as goal

abbrev pub invariant-loop-step : goal.invariant-loop-step
invariant-loop-step l =
    map release_value l.releases.items
    ≡ map release_value l.fn.releases.items ++ map (release_of l.design 0 l.node.0) (upwards 0 l.step)
