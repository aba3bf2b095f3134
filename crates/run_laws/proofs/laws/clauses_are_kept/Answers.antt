use Rattle.run_laws.proofs.RunGuarantees.{clauses_are_kept}
use Rattle.run_laws.proofs.laws.clauses_are_kept.Goals as goal

pub returns : goal.returns
returns c = clauses_are_kept
