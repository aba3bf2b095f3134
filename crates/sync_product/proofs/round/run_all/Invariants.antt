use Rattle.std.proofs.Common.{◌≡◌, ◌<◌, ℕ, map, slice_get, Some}
use Rattle.pals_model.specs.declared.design.Component.{Component}
use Rattle.sync_product.specs.proof.Rounds.{IsStepped, frames_of}
use Rattle.sync_product.specs.proof.ProductSizes.{part_size, stage_size}
use Rattle.sync_product.proofs.round.run_all.Given as goal

-- the first components have completed their steps, and the sizes stay
abbrev pub invariant-loop-node : goal.invariant-loop-node
invariant-loop-node l = record {
  stepped : (k : ℕ) (c : Component) → k < l.node → slice_get l.round.design.now.components k ≡ Some c
      → IsStepped l.round (frames_of l.parts) l.next l.stages.items k c;
  parts : map part_size l.next ≡ map part_size l.fn.next;
  stages : map stage_size l.stages.items ≡ map stage_size l.fn.stages.items;
}
