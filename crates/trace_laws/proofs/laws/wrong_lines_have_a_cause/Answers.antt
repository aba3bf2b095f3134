use Rattle.trace_laws.proofs.WrongLines.{wrong_lines_have_a_cause}
use Rattle.trace_laws.proofs.laws.wrong_lines_have_a_cause.Goals as goal

pub returns : goal.returns
returns c = wrong_lines_have_a_cause
