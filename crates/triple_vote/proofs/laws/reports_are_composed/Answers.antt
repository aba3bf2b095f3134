use Rattle.triple_vote.proofs.OutvotedFaultReports.{report_is_thrice, thrice_without_replicas}
use Rattle.triple_vote.proofs.laws.reports_are_composed.Goals as goal

pub returns : goal.returns
returns c = record { tripled_report = report_is_thrice; alone = thrice_without_replicas }
