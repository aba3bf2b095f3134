use Rattle.run_laws.proofs.ReportRows.{reports_have_rows}
use Rattle.run_laws.proofs.ReportsWithoutJournalLines.{reports_have_no_forms}
use Rattle.run_laws.proofs.line_laws.reports_are_sound.Goals as goal

pub returns : goal.returns
returns c = record { rows = reports_have_rows; forms = reports_have_no_forms }
