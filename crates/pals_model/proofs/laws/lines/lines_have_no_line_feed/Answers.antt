use Rattle.pals_model.proofs.TextLineLaws.{row_has_lines, report_has_lines}
use Rattle.pals_model.proofs.laws.lines.lines_have_no_line_feed.Goals as goal

pub returns : goal.returns
returns c = record { row = row_has_lines; report = report_has_lines }
