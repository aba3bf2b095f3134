use Rattle.std.proofs.Common.{◌∙◌, ◌<◌, Bool, List, [], ap, sym, length, slice_get, slice_index_or, arith}
use Rattle.std.proofs.lemmas.Option.{slice_get-get_or}
use Rattle.pals_model.specs.declared.design.Link.{Link}
use Rattle.triple_vote.specs.declared.replica_layer.Layer.{Layer}
use Rattle.triple_vote.specs.VotedComposition.{is_replicated}
use Rattle.triple_vote.specs.proof.ReplicaLayers.{has_replica}
use Rattle.triple_vote.specs.proof.ThreeLayers.{there_in, sent_in, received_of}
use Rattle.triple_vote.proofs.SelectiveListWrites.{filled_skip, filled_all}
use Rattle.triple_vote.proofs.VotedMessagesAndTaps.{no_link, there_read, sent_fit, faults_are_fit, heard_sizes_stay}
use Rattle.triple_vote.proofs.VotedMessagesAndTaps.{heard_more}
use Rattle.triple_vote.proofs.received_messages.receive_all.Goals as goal

pub receive-requires-clause-number : goal.receive-requires-clause-number
receive-requires-clause-number c =
    omega (
      arith,
      ap length c.links-link-items.ensures.value,
      c.links-link-items.ensures.rules.links.count,
      c.loop-number-test.true,
    )

pub receive-requires-clause-sent : goal.receive-requires-clause-sent
receive-requires-clause-sent c =
    sent_fit c.args.design.now c.args.replicated.now c.args.table.faults.now c.args.layers.now c.args.at
    c.requires.layers
    c.requires.faults c.loop-number.received_messages
    c.loop-number.invariant.sizes c.links-link-items.result.now c.loop-number.number no_link
    c.index_mut-tuple.result.now c.links-link-items.ensures.value
    c.loop-number-test.true c.index_mut-tuple.ensures.value

pub receive-requires-clause-faults : goal.receive-requires-clause-faults
receive-requires-clause-faults c =
    faults_are_fit c.args.design.now c.args.replicated.now c.args.table.faults.now c.args.layers.now c.args.at
    c.requires.layers c.requires.faults c.loop-number.received_messages
    c.loop-number.invariant.sizes c.links-link-items.result.now c.loop-number.number no_link
    c.index_mut-tuple.result.now c.links-link-items.ensures.value
    c.loop-number-test.true c.index_mut-tuple.ensures.value

pub receive-requires-clause-places : goal.receive-requires-clause-places
receive-requires-clause-places c =
    c.requires.places c.loop-number.number
    (omega (arith, ap length c.links-link-items.ensures.value, c.loop-number-test.true))

pub loop-number-preserved-then-not-has_replica : goal.loop-number-preserved-then-not-has_replica
loop-number-preserved-then-not-has_replica c =
    let layers = c.args.layers.now in
    let at = c.args.at in
    let items = c.links-link-items.result.now in
    let number = c.loop-number.number in
    let layer = c.index-layers-at.result in
    let inside : at < length layers = omega (arith, c.requires.at, c.requires.layers.three) in
    let there =
    c.as_slice-there.ensures.value ∙ ap (λ (l : Layer). l.there) (sym c.index-layers-at.is)
    ∙ sym (there_read layers at layer inside c.index-layers-at.is) in
    let link = slice_index_or items number no_link in
    record {
      sizes = c.loop-number.invariant.sizes;
      done =
          filled_skip c.args.design.now.links
          (λ (x : Link). has_replica (slice_index_or (there_in layers) at []) x.target.0)
          (λ k (x : Link). received_of (is_replicated c.args.replicated.now x.source.0) c.args.table.faults.now
          (sent_in layers) k at) c.loop-number.received_messages number link
          (ap (λ l. slice_get l number) (sym c.links-link-items.ensures.value)
          ∙ slice_get-get_or items number no_link c.loop-number-test.true)
          (ap (λ (t : List Bool). has_replica t link.target.0) (sym there) ∙ sym c.has_replica.ensures
          ∙ c.if-not-has_replica.true) c.loop-number.invariant.done;
    }

pub loop-number-preserved : goal.loop-number-preserved
loop-number-preserved c =
    let is = c.receive.ensures
    ∙ ap (λ b. received_of b c.args.table.faults.now (sent_in c.args.layers.now) c.loop-number.number c.args.at)
    c.has_replica-three.ensures in
    record {
      sizes =
          heard_sizes_stay c.args.design.now c.args.replicated.now c.args.table.faults.now c.args.layers.now c.args.at
          c.requires.layers c.requires.faults c.loop-number.received_messages
          c.loop-number.invariant.sizes c.links-link-items.result.now c.loop-number.number _
          c.index_mut-tuple.result.now c.links-link-items.ensures.value
          c.loop-number-test.true c.index_mut-tuple.ensures.value c.receive.new.to is;
      done =
          heard_more c.args.design.now c.args.replicated.now c.args.table.faults.now c.args.layers.now c.args.at
          c.requires.layers c.requires.faults c.loop-number.received_messages
          c.loop-number.invariant.sizes c.links-link-items.result.now c.loop-number.number _
          c.index_mut-tuple.result.now c.links-link-items.ensures.value
          c.loop-number-test.true c.index_mut-tuple.ensures.value c.receive.new.to is c.loop-number.invariant.done;
    }

pub returns-clause-received : goal.returns-clause-received
returns-clause-received c =
    filled_all c.args.design.now.links
    (λ (link : Link). has_replica (slice_index_or (there_in c.args.layers.now) c.args.at []) link.target.0)
    (λ number (link : Link).
    received_of (is_replicated c.args.replicated.now link.source.0) c.args.table.faults.now (sent_in c.args.layers.now)
    number c.args.at)
    c.loop-number.received_messages c.loop-number.number
    (omega (arith, ap length c.links-link-items.ensures.value, c.loop-number-test.false))
    c.loop-number.invariant.done
