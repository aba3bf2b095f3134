use Rattle.std.proofs.Common.{◌*◌, ◌≤◌, All}
use Rattle.std.specs.List.Sorted.{IsNonDecreasing}
use Rattle.thread_tests.proofs.list_clocks.steady.Given as goal

-- the readings so far are in order, and all are below the next one
abbrev pub invariant-loop-number : goal.invariant-loop-number
invariant-loop-number l =
    record { order : IsNonDecreasing l.readings; below : All (λ reading. reading ≤ l.number * 30) l.readings }
