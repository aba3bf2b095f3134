use Rattle.std.proofs.Common.{arith}
use Rattle.pals_model.specs.RoundTexts.{line_end}
use Rattle.pals_report.proofs.TextPrefixes.{begins_on_err}
use Rattle.pals_report.specs.CheckReports.{component_line}
use Rattle.pals_report.proofs.LinePerItem.{lines_turn, lines_all}
use Rattle.pals_report.proofs.design_lines.add_components.Goals as goal

pub returns-in_err-add_component-clause-err : goal.returns-in_err-add_component-clause-err
returns-in_err-add_component-clause-err c =
    begins_on_err c.from_residual.result _ _ _ _ c.loop-component.invariant c.in_err-add_component.ensures.err

pub loop-component-preserved : goal.loop-component-preserved
loop-component-preserved c =
    lines_turn line_end component_line c.args.components.now c.loop-component.component-index c.component-item.result _
    _ _ c.loop-component-test.true c.component-item.is c.loop-component.invariant c.in_ok-add_component.ensures.ok

pub returns-clause-ok : goal.returns-clause-ok
returns-clause-ok c =
    lines_all line_end component_line c.args.components.now c.loop-component.component-index _ _ (omega arith)
    c.loop-component.invariant
