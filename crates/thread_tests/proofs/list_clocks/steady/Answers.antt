use Rattle.std.proofs.Common.{List, ℕ, ◌+◌, ◌*◌, ◌≤◌, All, sym, subst}
use Rattle.std.specs.List.Sorted.{IsNonDecreasing}
use Rattle.thread_tests.proofs.OrderedReadings.{in_order, all_below}
use Rattle.thread_tests.proofs.list_clocks.steady.Goals as goal

pub loop-number-preserved : goal.loop-number-preserved
loop-number-preserved c = record {
  order =
      subst (λ (readings : List ℕ). IsNonDecreasing readings) (sym c.in_ok-push.ensures.ok)
      (in_order c.loop-number.readings c.loop-number.number c.loop-number.invariant.order
      c.loop-number.invariant.below);
  below =
      subst (λ (readings : List ℕ). All (λ (r : ℕ). r ≤ (c.loop-number.number + 1) * 30) readings)
      (sym c.in_ok-push.ensures.ok)
      (all_below c.loop-number.readings c.loop-number.number c.loop-number.invariant.below);
}
