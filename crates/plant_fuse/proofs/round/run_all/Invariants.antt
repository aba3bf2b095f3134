use Rattle.std.proofs.Common.{◌≡◌, ◌<◌, ℕ, map, slice_get, Some}
use Rattle.pals_runs.specs.declared.plant_pairs.Pair.{Pair}
use Rattle.sync_product.specs.proof.Rounds.{frames_of}
use Rattle.sync_product.specs.proof.ProductSizes.{part_size, stage_size}
use Rattle.plant_fuse.specs.proof.RoundWork.{AreAlone, IsRun}
use Rattle.plant_fuse.proofs.round.run_all.Given as goal

-- the components in no pair and the first pairs have completed their steps, and the sizes stay
abbrev pub invariant-loop-pair : goal.invariant-loop-pair
invariant-loop-pair l = record {
  alone : AreAlone l.round l.tables.pairs (frames_of l.parts) l.next l.stages.items;
  together : (k : ℕ) (pair : Pair) → k < l.pair-index → slice_get l.tables.pairs k ≡ Some pair
      → IsRun l.round (frames_of l.parts) l.next l.stages.items pair;
  parts : map part_size l.next ≡ map part_size l.fn.next;
  stages : map stage_size l.stages.items ≡ map stage_size l.fn.stages.items;
}
