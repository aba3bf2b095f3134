use Rattle.std.proofs.Common.{◌++◌, ap, ◌∙◌, arith}
use Rattle.pals_model.specs.RoundTexts.{line_end}
use Rattle.pals_report.proofs.TextPrefixes.{begins_on_err}
use Rattle.pals_report.proofs.LinePerItem.{lines_turn, lines_all}
use Rattle.bundle_designs.specs.ViolationLines.{violation_line}
use Rattle.bundle_designs.proofs.violations.add_lines.Goals as goal

pub returns-in_err-add_line-clause-err : goal.returns-in_err-add_line-clause-err
returns-in_err-add_line-clause-err c =
    begins_on_err c.from_residual.result _ _ _ _ c.loop-violation.invariant.lines c.in_err-add_line.ensures.err

pub loop-violation-preserved : goal.loop-violation-preserved
loop-violation-preserved c =
    let text = c.args.text.now in
    let added =
    c.in_ok-add_line.ensures.ok
    ∙ ap (λ t. c.loop-violation.out.items ++ violation_line t c.violation-item.result ++ line_end)
    c.loop-violation.invariant.text in
    record {
      text = c.in_ok-add_line.ensures.text ∙ c.loop-violation.invariant.text;
      lines =
          lines_turn line_end (violation_line text) c.args.found.now c.loop-violation.violation-index
          c.violation-item.result _ _ _ c.loop-violation-test.true c.violation-item.is
          c.loop-violation.invariant.lines added;
    }

pub returns-clause-ok : goal.returns-clause-ok
returns-clause-ok c =
    lines_all line_end (violation_line c.args.text.now) c.args.found.now c.loop-violation.violation-index _ _
    (omega arith) c.loop-violation.invariant.lines
