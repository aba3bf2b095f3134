use Rattle.pals_report.proofs.TextPrefixes.{joined_on_ok}
use Rattle.pals_report.proofs.RowLines.{row_same}
use Rattle.pals_report.proofs.whole_row_writes.add_row.Goals as goal

-- the row from the composition's parts is the composition's row
pub returns-clause-composed : goal.returns-clause-composed
returns-clause-composed g c env are =
    joined_on_ok _ _ _ _ _ _ _ c.whole_or_none.ensures.same c.whole_or_none.ensures.ok c.add_lines-written.ensures.ok
    (row_same c.args.design.now env c.args.round (g.P.RoundParts.part_of c.args.parts.now)
    c.add_lines-written.ensures.rules.taps.each are)
