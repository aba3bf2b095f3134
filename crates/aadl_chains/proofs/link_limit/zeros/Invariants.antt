use Rattle.std.proofs.Common.{◌≡◌, length}
use Rattle.aadl_chains.proofs.link_limit.zeros.Given as goal

abbrev pub invariant-loop-at : goal.invariant-loop-at
invariant-loop-at l = length l.counts.items ≡ l._at
