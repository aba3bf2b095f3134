use Rattle.design_laws.proofs.NoViolations.{nothing_found}
use Rattle.design_laws.proofs.instances.no_violations_are_no_findings.Goals as goal

pub returns : goal.returns
returns c = λ tree s none. nothing_found tree s none
