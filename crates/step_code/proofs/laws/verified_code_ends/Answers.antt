use Rattle.step_code.proofs.StepResults.{exec_leaves}
use Rattle.step_code.proofs.laws.verified_code_ends.Goals as goal

pub returns : goal.returns
returns c = exec_leaves
