use Rattle.std.proofs.Common.{◌≡◌, map}
use Rattle.sync_product.specs.proof.ProductSizes.{part_size, stage_size}
use Rattle.sync_product.specs.proof.Rounds.{frames_of}
use Rattle.triple_vote.proofs.LayerSteps.{RunTo}
use Rattle.triple_vote.proofs.layer_rounds.run_all.Given as goal

-- the first existing components have completed their steps, and the sizes stay
abbrev pub invariant-loop-node : goal.invariant-loop-node
invariant-loop-node l = record {
  run : RunTo l.round.design.now l.round.values.now l.round.messages.now l.there (frames_of l.parts) l.next
      l.stages.items l.node;
  next : map part_size l.next ≡ map part_size l.fn.next;
  stages : map stage_size l.stages.items ≡ map stage_size l.fn.stages.items;
}
