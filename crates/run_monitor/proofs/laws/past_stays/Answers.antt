use Rattle.run_monitor.proofs.FormulaLaws.{past_stays}
use Rattle.run_monitor.proofs.laws.past_stays.Goals as goal

pub returns : goal.returns
returns c = past_stays
