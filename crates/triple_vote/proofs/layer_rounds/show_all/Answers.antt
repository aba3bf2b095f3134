use Rattle.std.proofs.Common.{◌∙◌, refl, ap, sym, length, arith}
use Rattle.std.specs.Prelude.{slice_get}
use Rattle.pals_model.specs.declared.design.Tap.{Tap}
use Rattle.sync_product.specs.declared.component_stage.Stage.{Stage}
use Rattle.triple_vote.specs.proof.ReplicaLayers.{has_replica, whole_from}
use Rattle.triple_vote.proofs.SelectiveListWrites.{filled_all}
use Rattle.triple_vote.proofs.StageMessagesAndTaps.{tuple_fits, tuple_sizes_stay, tuple_shown}
use Rattle.triple_vote.proofs.layer_rounds.show_all.Goals as goal

pub write_port_tuple-requires : goal.write_port_tuple-requires
write_port_tuple-requires c =
    tuple_fits c.args.design.now c.taps-tap-items.ensures.rules c.args.there.now c.args.stages.now c.requires.stages
    c.loop-number.shown c.loop-number.invariant.sizes
    c.taps-tap-items.result.now c.loop-number.number c.tap-item.result c.index_mut-tuple.result.now
    c.index-stages-tap.result c.taps-tap-items.ensures.value c.loop-number-test.true
    c.tap-item.is c.index_mut-tuple.ensures.value c.index-stages-tap.is
    ∙ ap length (sym (c.as_slice-rows.ensures.value ∙ ap (λ (s : Stage). s.rows) (sym c.index-stages-tap.is)))

pub loop-number-preserved : goal.loop-number-preserved
loop-number-preserved c = record {
  sizes =
      tuple_sizes_stay c.args.design.now c.taps-tap-items.ensures.rules c.args.there.now c.args.stages.now
      c.requires.stages c.loop-number.shown c.loop-number.invariant.sizes
      c.taps-tap-items.result.now c.loop-number.number c.tap-item.result c.index_mut-tuple.result.now
      c.index-stages-tap.result c.taps-tap-items.ensures.value c.loop-number-test.true
      c.tap-item.is c.index_mut-tuple.ensures.value c.index-stages-tap.is c.as_slice-rows.result.now
      c.write_port_tuple.new.to (length c.as_slice-rows.result.now)
      (c.as_slice-rows.ensures.value ∙ ap (λ (s : Stage). s.rows) (sym c.index-stages-tap.is)) refl
      c.write_port_tuple.ensures;
  done =
      tuple_shown c.args.design.now c.taps-tap-items.ensures.rules c.args.there.now c.args.stages.now c.requires.stages
      c.loop-number.shown c.loop-number.invariant.sizes
      c.taps-tap-items.result.now c.loop-number.number c.tap-item.result c.index_mut-tuple.result.now
      c.index-stages-tap.result c.taps-tap-items.ensures.value c.loop-number-test.true
      c.tap-item.is c.index_mut-tuple.ensures.value c.index-stages-tap.is c.as_slice-rows.result.now
      c.write_port_tuple.new.to (length c.as_slice-rows.result.now)
      (c.as_slice-rows.ensures.value ∙ ap (λ (s : Stage). s.rows) (sym c.index-stages-tap.is)) refl
      c.write_port_tuple.ensures c.loop-number.invariant.done;
}

pub returns-clause-shown : goal.returns-clause-shown
returns-clause-shown c =
    filled_all c.args.design.now.taps (λ (x : Tap). has_replica c.args.there.now x.source.0)
    (λ at (x : Tap). whole_from (slice_get c.args.stages.now x.source.0) x.out_port) c.loop-number.shown
    c.loop-number.number (omega (arith, ap length c.taps-tap-items.ensures.value, c.loop-number-test.false))
    c.loop-number.invariant.done
