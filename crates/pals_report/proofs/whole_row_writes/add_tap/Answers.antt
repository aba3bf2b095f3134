use Rattle.std.proofs.Common.{◌≡◌, Some, ap, ◌∙◌, arith}
use Rattle.std.specs.List.{slice_get}
use Rattle.std.proofs.lemmas.Grind.{common_steps}
use Rattle.std.proofs.lemmas.Option.{slice_get_read}
use Rattle.pals_model.specs.RoundTexts.{text_of, tap_lines, taps_before}
use Rattle.pals_report.specs.proof.RowLines.{lines_at_place}
use Rattle.pals_report.proofs.RowLines.{at_place}
use Rattle.pals_report.proofs.TextPrefixes.{joined_on_ok}
use Rattle.pals_report.proofs.whole_row_writes.add_tap.Goals as goal

-- the tap with the index of the number is the one that is shown
pub returns-clause-ok : goal.returns-clause-ok
returns-clause-ok c shown is =
    let design = c.args.design.now in
    let tap = c.index-taps-number.result in
    let here : slice_get design.taps c.args.tap ≡ Some tap = grind (arith, common_steps, slice_get_read) in
    let same : tap ≡ shown = cc in
    let place : c.place_of_tap-place.result ≡ taps_before design.taps c.args.tap tap.source.0 =
    grind (arith, common_steps) in
    joined_on_ok _ _ _ _ _ _ _ c.whole_or_none.ensures.same c.whole_or_none.ensures.ok
    c.add_line_at_place-written.ensures.ok
    (ap (λ d. text_of (lines_at_place d c.place_of_tap-place.result tap (Some c.args.part.now))) c.parts.ensures.value
    ∙ ap text_of (at_place design c.args.tap c.place_of_tap-place.result tap (Some c.args.part.now) place
    ∙ ap (λ t. tap_lines design c.args.tap t (Some c.args.part.now)) same))
