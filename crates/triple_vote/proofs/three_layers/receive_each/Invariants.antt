use Rattle.triple_vote.specs.proof.ThreeLayers.{HasReceivedSizes}
use Rattle.triple_vote.proofs.ThreeLayerUpdates.{ReceivedTo}
use Rattle.triple_vote.proofs.three_layers.receive_each.Given as goal

-- the replicas of the first layers have received
abbrev pub invariant-loop-at : goal.invariant-loop-at
invariant-loop-at l = record {
  received : ReceivedTo l.design l.replicated l.table.faults.now l.layers l.received_messages.items l.at;
  received_messages : HasReceivedSizes l.design l.received_messages.items;
}
