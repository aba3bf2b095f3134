use Rattle.std.proofs.Common.{arith}
use Rattle.pals_model.specs.RoundTexts.{line_end}
use Rattle.pals_report.proofs.TextPrefixes.{begins_on_err}
use Rattle.pals_report.specs.CheckReports.{link_line}
use Rattle.pals_report.proofs.LinePerItem.{lines_all}
use Rattle.pals_report.proofs.design_lines.add_links.Goals as goal

pub returns-in_err-add_link-clause-err : goal.returns-in_err-add_link-clause-err
returns-in_err-add_link-clause-err c =
    begins_on_err c.from_residual.result _ _ _ _ c.loop-link.invariant c.in_err-add_link.ensures.err

pub returns-clause-ok : goal.returns-clause-ok
returns-clause-ok c =
    lines_all line_end (link_line c.args.design.now) c.args.links.now c.loop-link.link-index _ _ (omega arith)
    c.loop-link.invariant
