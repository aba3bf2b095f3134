use Rattle.std.proofs.Common.{◌∙◌, true, refl, ap, length, arith}
use Rattle.pals_model.specs.declared.design.Tap.{Tap}
use Rattle.triple_vote.specs.VotedComposition.{is_replicated}
use Rattle.triple_vote.specs.proof.ThreeLayers.{shown_in, shown_of}
use Rattle.triple_vote.proofs.SelectiveListWrites.{filled_all}
use Rattle.triple_vote.proofs.VotedMessagesAndTaps.{shown_fit, shown_sizes_stay, shown_more}
use Rattle.triple_vote.proofs.tap_tuples.show_each.Goals as goal

pub show-requires : goal.show-requires
show-requires c =
    shown_fit c.args.design.now c.args.replicated.now c.args.layers.now c.requires.layers c.loop-number.shown
    c.loop-number.invariant.sizes
    c.taps-tap-items.result.now c.loop-number.number c.tap-item.result c.index_mut-tuple.result.now
    c.taps-tap-items.ensures.value c.loop-number-test.true c.tap-item.is c.index_mut-tuple.ensures.value

pub loop-number-preserved : goal.loop-number-preserved
loop-number-preserved c =
    let is =
    c.show.ensures ∙ ap (λ b. shown_of b (shown_in c.args.layers.now) c.loop-number.number)
    c.has_replica-three.ensures in
    record {
      sizes =
          shown_sizes_stay c.args.design.now c.args.replicated.now c.args.layers.now c.requires.layers
          c.loop-number.shown c.loop-number.invariant.sizes
          c.taps-tap-items.result.now c.loop-number.number c.tap-item.result c.index_mut-tuple.result.now
          c.taps-tap-items.ensures.value c.loop-number-test.true c.tap-item.is
          c.index_mut-tuple.ensures.value c.show.new.to is;
      done =
          shown_more c.args.design.now c.args.replicated.now c.args.layers.now c.requires.layers c.loop-number.shown
          c.loop-number.invariant.sizes
          c.taps-tap-items.result.now c.loop-number.number c.tap-item.result c.index_mut-tuple.result.now
          c.taps-tap-items.ensures.value c.loop-number-test.true c.tap-item.is
          c.index_mut-tuple.ensures.value c.show.new.to is c.loop-number.invariant.done;
    }

pub returns-clause-shown : goal.returns-clause-shown
returns-clause-shown c = λ n tap is.
    filled_all c.args.design.now.taps (λ (x : Tap). true)
    (λ number (x : Tap). shown_of (is_replicated c.args.replicated.now x.source.0) (shown_in c.args.layers.now) number)
    c.loop-number.shown c.loop-number.number
    (omega (arith, ap length c.taps-tap-items.ensures.value, c.loop-number-test.false)) c.loop-number.invariant.done
    n tap is refl
