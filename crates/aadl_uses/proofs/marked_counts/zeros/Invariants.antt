use Rattle.std.proofs.Common.{◌≡◌, length}
use Rattle.aadl_uses.proofs.marked_counts.zeros.Given as goal

abbrev pub invariant-loop-at : goal.invariant-loop-at
invariant-loop-at l = length l.counts.items ≡ l._at
