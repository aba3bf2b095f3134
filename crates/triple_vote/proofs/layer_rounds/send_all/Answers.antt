use Rattle.std.proofs.Common.{◌∙◌, ap, sym, length, arith}
use Rattle.pals_model.specs.declared.design.Link.{Link}
use Rattle.sync_product.specs.proof.Rounds.{sent_by}
use Rattle.triple_vote.specs.proof.ReplicaLayers.{has_replica}
use Rattle.triple_vote.proofs.SelectiveListWrites.{filled_all}
use Rattle.triple_vote.proofs.StageMessagesAndTaps.{message_fits, message_sizes_stay, message_sent}
use Rattle.triple_vote.proofs.layer_rounds.send_all.Goals as goal

pub write_port_tuple-requires : goal.write_port_tuple-requires
write_port_tuple-requires c =
    message_fits c.args.design.now c.links-link-items.ensures.rules c.args.there.now c.args.stages.now c.requires.stages
    c.loop-number.sent c.loop-number.invariant.sizes
    c.links-link-items.result.now c.loop-number.number _ c.index_mut-message.result.now c.index-stages-link.result
    c.links-link-items.ensures.value c.loop-number-test.true
    c.index_mut-message.ensures.value c.index-stages-link.is
    ∙ ap length (sym c.as_slice.ensures.value)

pub loop-number-preserved : goal.loop-number-preserved
loop-number-preserved c = record {
  sizes =
      message_sizes_stay c.args.design.now c.links-link-items.ensures.rules c.args.there.now c.args.stages.now
      c.requires.stages c.loop-number.sent c.loop-number.invariant.sizes
      c.links-link-items.result.now c.loop-number.number _ c.index_mut-message.result.now c.index-stages-link.result
      c.links-link-items.ensures.value c.loop-number-test.true
      c.index_mut-message.ensures.value c.index-stages-link.is c.as_slice.result.now c.write_port_tuple.new.to
      c.as_slice.ensures.value c.write_port_tuple.ensures;
  done =
      message_sent c.args.design.now c.links-link-items.ensures.rules c.args.there.now c.args.stages.now
      c.requires.stages c.loop-number.sent c.loop-number.invariant.sizes
      c.links-link-items.result.now c.loop-number.number _ c.index_mut-message.result.now c.index-stages-link.result
      c.links-link-items.ensures.value c.loop-number-test.true
      c.index_mut-message.ensures.value c.index-stages-link.is c.as_slice.result.now c.write_port_tuple.new.to
      c.as_slice.ensures.value c.write_port_tuple.ensures
      c.loop-number.invariant.done;
}

pub returns-clause-sent : goal.returns-clause-sent
returns-clause-sent c =
    filled_all c.args.design.now.links (λ (x : Link). has_replica c.args.there.now x.source.0)
    (λ at (x : Link). sent_by c.args.stages.now x) c.loop-number.sent c.loop-number.number
    (omega (arith, ap length c.links-link-items.ensures.value, c.loop-number-test.false)) c.loop-number.invariant.done
