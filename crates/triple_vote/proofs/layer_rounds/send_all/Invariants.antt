use Rattle.std.proofs.Common.{◌≡◌}
use Rattle.pals_model.specs.declared.design.Link.{Link}
use Rattle.sync_product.specs.proof.ProductSizes.{message_sizes}
use Rattle.sync_product.specs.proof.Rounds.{sent_by}
use Rattle.triple_vote.specs.proof.ReplicaLayers.{lengths, has_replica}
use Rattle.triple_vote.proofs.SelectiveListWrites.{Filled}
use Rattle.triple_vote.proofs.layer_rounds.send_all.Given as goal

-- the first messages are written
abbrev pub invariant-loop-number : goal.invariant-loop-number
invariant-loop-number l = record {
  sizes : lengths l.sent ≡ message_sizes l.design;
  done : Filled l.design.links (λ (link : Link). has_replica l.there link.source.0)
      (λ number (link : Link). sent_by l.stages link) l.sent l.number;
}
