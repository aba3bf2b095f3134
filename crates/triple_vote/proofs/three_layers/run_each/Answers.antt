use Rattle.std.proofs.Common.{◌∙◌, ◌<◌, List, [], subst, length, arith}
use Rattle.std.proofs.lemmas.List.{get_or_default}
use Rattle.std.proofs.lemmas.Option.{slice_get_within}
use Rattle.pals_base.specs.declared.basic_types.PortValue.{PortValue}
use Rattle.triple_vote.specs.proof.ReplicaLayers.{IsMade}
use Rattle.triple_vote.proofs.ThreeLayerUpdates.{made_more, stay_more, three_more, room_at}
use Rattle.triple_vote.proofs.three_layers.run_each.Goals as goal

pub run-requires-clause-room : goal.run-requires-clause-room
run-requires-clause-room c =
    room_at c.args.design.now c.loop-at.layers.items c.loop-at.at c.index_mut.result.now c.loop-at.invariant.rooms
    (omega (arith, c.loop-at.layers.ok.0, c.loop-at-test.true)) c.index_mut.ensures.value

pub returns-in_err-run-clause-stay : goal.returns-in_err-run-clause-stay
returns-in_err-run-clause-stay c =
    stay_more c.args.layers.now.items c.loop-at.layers.items c.loop-at.at c.index_mut.result.now c.run.new.self
    c.index_mut.ensures.value c.in_err-run.ensures.stays
    c.loop-at.invariant.stay

pub returns-in_err-run-clause-layers : goal.returns-in_err-run-clause-layers
returns-in_err-run-clause-layers c =
    three_more c.args.design.now c.loop-at.layers.items c.loop-at.at c.run.new.self c.loop-at.invariant.rooms
    c.in_err-run.ensures.room

pub loop-at-preserved : goal.loop-at-preserved
loop-at-preserved c =
    let at = c.loop-at.at in
    let layers = c.loop-at.layers.items in
    let new = c.run.new.self in
    let design = c.args.design.now in
    let values = c.args.values.now in
    let received_messages = c.args.received_messages.now in
    let within : at < length layers = omega (arith, c.loop-at.layers.ok.0, c.loop-at-test.true) in
    let inside : at < length received_messages =
    omega (arith, within, c.loop-at.invariant.rooms.three, c.requires.received_messages) in
    let messages =
    c.as_slice.ensures.value ∙ c.index-received_messages-at.is
    ∙ get_or_default received_messages at c.index-received_messages-at.result [] inside in
    record {
      made = made_more design values received_messages layers at new within
          (subst (λ (ms : List (List PortValue)). IsMade design values ms new) messages c.in_ok-run.ensures.made)
          c.loop-at.invariant.made;
      stay =
          stay_more c.args.layers.now.items layers at c.index_mut.result.now new c.index_mut.ensures.value
          c.in_ok-run.ensures.stays c.loop-at.invariant.stay;
      rooms = three_more design layers at new c.loop-at.invariant.rooms c.in_ok-run.ensures.room;
      stages = c.in_ok-run.ensures.stages ∙ c.loop-at.invariant.stages;
    }

pub returns-clause-made : goal.returns-clause-made
returns-clause-made c = λ replica layer is.
    c.loop-at.invariant.made replica layer
    (omega (
      arith,
      slice_get_within c.loop-at.layers.items replica layer is,
      c.loop-at.layers.ok.0,
      c.loop-at-test.false,
    )) is
