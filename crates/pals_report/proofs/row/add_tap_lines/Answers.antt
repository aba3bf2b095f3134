use Rattle.std.proofs.Common.{◌≡◌, ◌+◌, ◌∷◌, length, drop, get_or, ap, ◌∙◌, arith}
use Rattle.std.proofs.lemmas.Grind.{common_steps}
use Rattle.pals_model.specs.RoundTexts.{tap_lines, taps_before}
use Rattle.pals_report.specs.proof.RowLines.{tap_lines_from}
use Rattle.pals_report.proofs.TapPlacesAndCounts.{length-tap_places, place_at}
use Rattle.pals_report.proofs.RowLines.{lines_turn, at_place}
use Rattle.pals_report.proofs.TextPrefixes.{begins_more}
use Rattle.pals_report.proofs.row.add_tap_lines.Goals as goal

pub place-requires : goal.place-requires
place-requires g c = omega (arith, ap length c.requires, length-tap_places c.args.design.now.taps)

pub loop-number-preserved : goal.loop-number-preserved
loop-number-preserved g c =
    let design = c.args.design.now in
    let at = c.loop-number.number in
    let tap = c.tap-item.result in
    let part_of = g.P.RoundParts.part_of c.args.parts.now in
    let split : drop at design.taps ≡ tap ∷ drop (at + 1) design.taps = grind (arith, common_steps) in
    let place : c.place.result ≡ taps_before design.taps at tap.source.0 =
    place_at design.taps at c.place.result tap (omega arith)
    (c.tap-item.is ∙ ap (λ ts. get_or ts at tap) c.as_slice-tap-items.ensures.value)
    (c.place.ensures ∙ ap (λ ps. get_or ps at c.place.result) c.requires) in
    let added = c.in_ok-add_line_at_place.ensures.ok in
    let before = rw split at c.loop-number.invariant.rest in
    record {
      begun = begins_more _ _ _ _ c.loop-number.invariant.begun added;
      rest =
          lines_turn c.loop-number.out.items _ _ _ (tap_lines design at tap (part_of tap.source.0))
          (tap_lines_from design part_of (at + 1) (drop (at + 1) design.taps)) added
          (at_place design at c.place.result tap _ place ∙ ap (tap_lines design at tap) c.part-part.ensures) before;
    }
