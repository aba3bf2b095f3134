use Rattle.answer_laws.proofs.UniqueCheckReports.{one_report}
use Rattle.answer_laws.proofs.bundle_uniqueness.one_report.Goals as goal

pub returns : goal.returns
returns c = one_report
