use Rattle.std.proofs.Common.{◌≡◌, ◌++◌, false, ap, ◌∙◌, arith}
use Rattle.std.specs.Prelude.{slice_index_or}
use Rattle.pals_model.specs.RoundTexts.{line_end}
use Rattle.pals_report.proofs.LinePerItem.{lines_turn, lines_all}
use Rattle.run_monitor.specs.FormulaSemantics.{holds}
use Rattle.run_monitor.specs.WatchText.{verdict_line}
use Rattle.analysis_texts.proofs.WatchedRounds.{verdict_at, verdict_of, round_and_verdicts}
use Rattle.analysis_texts.proofs.properties.add_verdicts.Goals as goal

pub loop-at-preserved : goal.loop-at-preserved
loop-at-preserved c = λ h says.
    let properties = c.args.properties.now in
    let at = c.loop-at.at in
    let property = c.index-properties-at.result in
    let round = c.args.round in
    let verdict : c.said.result ≡ holds property.form h round =
    c.said.ensures ∙ ap (λ bits. slice_index_or bits at false) says
    ∙ verdict_at properties h round at property false c.loop-at-test.true c.index-properties-at.is in
    lines_turn line_end (verdict_of h round) properties at property _ _ _ c.loop-at-test.true c.index-properties-at.is
    (c.loop-at.invariant h says)
    (c.in_ok-add_verdict.ensures
    ∙ ap (λ said. c.loop-at.text.items ++ verdict_line property.name said ++ line_end) verdict)

pub returns : goal.returns
returns c = λ h says.
    let properties = c.args.properties.now in
    round_and_verdicts properties h c.args.round c.args.text.now.items c.add_round.new.out.items _
    c.in_ok-add_round.ensures.ok
    (lines_all line_end (verdict_of h c.args.round) properties c.loop-at.at _ _ (omega arith)
    (c.loop-at.invariant h says))
