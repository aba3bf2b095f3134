use Rattle.std.proofs.Common.{arith}
use Rattle.pals_model.specs.RoundTexts.{line_end}
use Rattle.pals_report.proofs.TextPrefixes.{begins_on_err}
use Rattle.pals_report.specs.CheckReports.{ignored_line}
use Rattle.pals_report.proofs.LinePerItem.{lines_turn, lines_all}
use Rattle.pals_report.proofs.design_lines.add_ignored_name_lines.Goals as goal

pub returns-in_err-add_ignored-clause-err : goal.returns-in_err-add_ignored-clause-err
returns-in_err-add_ignored-clause-err c =
    begins_on_err c.from_residual.result _ _ _ _ c.loop-name.invariant c.in_err-add_ignored.ensures.err

pub loop-name-preserved : goal.loop-name-preserved
loop-name-preserved c =
    lines_turn line_end ignored_line c.args.names.now c.loop-name.name-index c.name-item.result _ _ _
    c.loop-name-test.true c.name-item.is c.loop-name.invariant c.in_ok-add_ignored.ensures.ok

pub returns-clause-ok : goal.returns-clause-ok
returns-clause-ok c =
    lines_all line_end ignored_line c.args.names.now c.loop-name.name-index _ _ (omega arith) c.loop-name.invariant
