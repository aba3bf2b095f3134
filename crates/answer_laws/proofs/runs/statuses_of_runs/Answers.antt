use Rattle.answer_laws.proofs.RunAnswers.{status_exactly}
use Rattle.answer_laws.proofs.runs.statuses_of_runs.Goals as goal

pub returns : goal.returns
returns c root bundle trace s a x = status_exactly c.one_design.ensures root bundle trace s a x
