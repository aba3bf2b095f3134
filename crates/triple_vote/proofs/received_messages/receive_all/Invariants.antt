use Rattle.std.proofs.Common.{◌≡◌, [], slice_index_or}
use Rattle.pals_model.specs.declared.design.Link.{Link}
use Rattle.sync_product.specs.proof.ProductSizes.{message_sizes}
use Rattle.triple_vote.specs.VotedComposition.{is_replicated}
use Rattle.triple_vote.specs.proof.ReplicaLayers.{lengths, has_replica}
use Rattle.triple_vote.specs.proof.ThreeLayers.{there_in, sent_in, received_of}
use Rattle.triple_vote.proofs.SelectiveListWrites.{Filled}
use Rattle.triple_vote.proofs.received_messages.receive_all.Given as goal

-- the messages of the first links are written
abbrev pub invariant-loop-number : goal.invariant-loop-number
invariant-loop-number l = record {
  sizes : lengths l.received_messages ≡ message_sizes l.design;
  done : Filled l.design.links (λ (link : Link). has_replica (slice_index_or (there_in l.layers) l.at []) link.target.0)
      (λ number (link : Link).
      received_of (is_replicated l.replicated link.source.0) l.table.faults.now (sent_in l.layers) number l.at)
      l.received_messages l.number;
}
