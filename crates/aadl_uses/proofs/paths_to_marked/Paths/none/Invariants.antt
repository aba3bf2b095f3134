use Rattle.std.proofs.Common.{◌≡◌, length}
use Rattle.aadl_uses.proofs.paths_to_marked.Paths.none.Given as goal

abbrev pub invariant-loop-at : goal.invariant-loop-at
invariant-loop-at l = length l.rows.items ≡ l._at
