use Rattle.std.proofs.Common.{arith}
use Rattle.pals_model.specs.RoundTexts.{line_end}
use Rattle.pals_report.proofs.TextPrefixes.{begins_on_err}
use Rattle.pals_report.specs.CheckReports.{tap_line}
use Rattle.pals_report.proofs.LinePerItem.{lines_turn, lines_all}
use Rattle.pals_report.proofs.design_lines.add_taps.Goals as goal

pub returns-in_err-add_tap-clause-err : goal.returns-in_err-add_tap-clause-err
returns-in_err-add_tap-clause-err c =
    begins_on_err c.from_residual.result _ _ _ _ c.loop-tap.invariant c.in_err-add_tap.ensures.err

pub loop-tap-preserved : goal.loop-tap-preserved
loop-tap-preserved c =
    lines_turn line_end (tap_line c.args.design.now) c.args.taps.now c.loop-tap.tap-index c.tap-item.result _ _ _
    c.loop-tap-test.true c.tap-item.is c.loop-tap.invariant c.in_ok-add_tap.ensures.ok

pub returns-clause-ok : goal.returns-clause-ok
returns-clause-ok c =
    lines_all line_end (tap_line c.args.design.now) c.args.taps.now c.loop-tap.tap-index _ _ (omega arith)
    c.loop-tap.invariant
