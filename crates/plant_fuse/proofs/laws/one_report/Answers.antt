use Rattle.plant_fuse.proofs.Reports.{report_exists, report_is_one}
use Rattle.plant_fuse.proofs.ReportsWithoutPairs.{report_without_pairs}
use Rattle.plant_fuse.proofs.laws.one_report.Goals as goal

pub returns : goal.returns
returns c = record { exists = report_exists; one = report_is_one; without_pairs = report_without_pairs }
