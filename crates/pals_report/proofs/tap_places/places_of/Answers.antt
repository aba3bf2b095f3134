use Rattle.std.proofs.Common.{◌≡◌, ◌<◌, ◌+◌, ◌∷◌, drop, get_or, ◌∙◌, arith}
use Rattle.std.proofs.lemmas.Grind.{common_steps}
use Rattle.pals_report.proofs.TapPlacesAndCounts.{place_le, counts_turn, places_turn}
use Rattle.pals_report.proofs.tap_places.places_of.Goals as goal

pub overflow_add-count : goal.overflow_add-count
overflow_add-count c =
    let source : c.tap-item.result.source.0 < c.args.nodes = grind (arith, common_steps) in
    let count : c.index-count.result.now ≡ get_or c.loop-tap.counts.items c.tap-item.result.source.0 0 =
    grind (arith, common_steps) in
    omega (
      arith,
      c.loop-tap.invariant.counts c.tap-item.result.source.0 source,
      place_le c.args.taps.now c.loop-tap.tap-index c.tap-item.result.source.0,
    )

pub loop-tap-preserved : goal.loop-tap-preserved
loop-tap-preserved c =
    let taps = c.args.taps.now in
    let at = c.loop-tap.tap-index in
    let tap = c.tap-item.result in
    let source : tap.source.0 < c.args.nodes = grind (arith, common_steps) in
    let split : drop at taps ≡ tap ∷ drop (at + 1) taps = grind (arith, common_steps) in
    let count : c.index-count.result.now ≡ get_or c.loop-tap.counts.items tap.source.0 0 =
    grind (arith, common_steps) in
    let place = count ∙ c.loop-tap.invariant.counts tap.source.0 source in
    let before = rw split at c.loop-tap.invariant.places in
    record {
      long = grind (arith, common_steps);
      counts =
          counts_turn taps c.loop-tap.counts.items at c.index-count.result.now c.args.nodes tap c.loop-tap-test.true
          c.tap-item.is c.loop-tap.invariant.long source c.loop-tap.invariant.counts count;
      places =
          rw (c.in_ok-push.ensures.ok)
          (places_turn taps c.loop-tap.places at c.index-count.result.now tap (drop (at + 1) taps) _ place before);
    }
