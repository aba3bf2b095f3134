use Rattle.std.proofs.Common.{◌≡◌, map}
use Rattle.sync_product.specs.proof.ProductSizes.{stage_size}
use Rattle.triple_vote.specs.proof.ThreeLayers.{AreThree, StayPut}
use Rattle.triple_vote.proofs.ThreeLayerUpdates.{MadeTo}
use Rattle.triple_vote.proofs.three_layers.run_each.Given as goal

-- the first layers have completed the round, and the state of every layer is unchanged
abbrev pub invariant-loop-at : goal.invariant-loop-at
invariant-loop-at l = record {
  made : MadeTo l.design l.values l.received_messages l.layers.items l.at;
  stay : StayPut l.fn.layers.items l.layers.items;
  rooms : AreThree l.design l.layers.items;
  stages : map stage_size l.stages.items ≡ map stage_size l.fn.stages.items;
}
