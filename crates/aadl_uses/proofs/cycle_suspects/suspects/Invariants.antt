use Rattle.std.proofs.Common.{◌≡◌, ◌<◌, ℕ, true, Contains}
use Rattle.aadl_uses.specs.proof.ContainmentGraphs.{below_in}
use Rattle.aadl_uses.specs.proof.RecursionSuspects.{is_suspect}
use Rattle.aadl_uses.proofs.cycle_suspects.suspects.Given as goal

abbrev pub invariant-loop-number : goal.invariant-loop-number
invariant-loop-number l =
    (n s : ℕ) → n < l.number → is_suspect l.levels.items l.any n (below_in l.graph n s) ≡ true
    → Contains l.found.items (n, s)
