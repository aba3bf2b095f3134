use Rattle.std.proofs.Common.{ℕ, ◌<◌}
use Rattle.plant_fuse.specs.proof.Fusibility.{CanBeFused}
use Rattle.plant_fuse.proofs.fusibility.first_bad.Given as goal

-- the first ones can be fused
abbrev pub invariant-loop-index : goal.invariant-loop-index
invariant-loop-index l = (k : ℕ) → k < l.index → CanBeFused l.design l.pairs k
