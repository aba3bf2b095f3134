use Rattle.std.proofs.Common.{◌≡◌, ◌∙◌, ◌<◌, ◌++◌, length, sym, ap, arith}
use Rattle.std.specs.Prelude.{slice_get, slice_index_or}
use Rattle.std.proofs.lemmas.List.{get_or-map}
use Rattle.pals_model.specs.PortKindsAndRates.{out_kind}
use Rattle.pals_model.specs.RoundTexts.{line_end, tap_line}
use Rattle.pals_report.proofs.LinePerItem.{lines_turn, lines_all}
use Rattle.triple_vote.specs.VotedText.{shown_line}
use Rattle.analysis_texts.proofs.replicas.add_taps.Goals as goal

pub loop-number-preserved : goal.loop-number-preserved
loop-number-preserved c = λ all are.
    let design = c.args.design.now in
    let shown = c.args.shown.now in
    let at = c.loop-number.number in
    let tap = c.tap-item.result in
    let same = c.as_slice-tap-items.ensures.value in
    let within : at < length design.taps = omega (arith, ap length same) in
    let is : tap ≡ slice_index_or design.taps at tap = c.tap-item.is ∙ ap (λ ts. slice_index_or ts at tap) same in
    let tuple : c.as_slice.result.now ≡ all tap =
    c.as_slice.ensures.value ∙ c.index-shown-number.is ∙ ap (λ ts. slice_index_or ts at c.index-shown-number.result) are
    ∙ get_or-map all design.taps at tap c.index-shown-number.result within ∙ ap all (sym is) in
    let out = c.loop-number.text.items in
    lines_turn line_end (shown_line design all) design.taps at tap _ _ _ within is (c.loop-number.invariant all are)
    (c.in_ok-add_tap_tuple.ensures.ok
    ∙ ap (λ kind. out ++ tap_line kind tap c.as_slice.result.now ++ line_end) c.out_kind-kind.ensures
    ∙ ap (λ t. out ++ tap_line (out_kind (slice_get design.components tap.source.0) tap.out_port) tap t
    ++ line_end) tuple)

pub returns : goal.returns
returns c = λ all are.
    let taps = c.args.design.now.taps in
    let same = c.as_slice-tap-items.ensures.value in
    lines_all line_end (shown_line c.args.design.now all) taps c.loop-number.number _ _ (omega (arith, ap length same))
    (c.loop-number.invariant all are)
