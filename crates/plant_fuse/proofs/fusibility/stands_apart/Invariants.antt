use Rattle.std.proofs.Common.{◌≡◌, ◌≢◌, ℕ, ◌<◌, slice_get, Some}
use Rattle.pals_runs.specs.declared.plant_pairs.Pair.{Pair}
use Rattle.plant_fuse.specs.FusedComposition.{AreApart}
use Rattle.plant_fuse.proofs.fusibility.stands_apart.Given as goal

-- the first others are apart from it
abbrev pub invariant-loop-other : goal.invariant-loop-other
invariant-loop-other l = (other : ℕ) (a b : Pair) → other < l.other → other ≢ l.index
    → slice_get l.pairs l.index ≡ Some a → slice_get l.pairs other ≡ Some b → AreApart a b
