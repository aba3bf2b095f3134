use Rattle.pals_base.proofs.StepTermination.{fires_well, starts_well}
use Rattle.pals_base.proofs.laws.single_step.each_step_ends.Goals as goal

pub returns-clause-start : goal.returns-clause-start
returns-clause-start c = starts_well

pub returns-clause-step : goal.returns-clause-step
returns-clause-step c b frame inputs rules shape = (fires_well b frame inputs rules shape).0

pub returns-clause-outs : goal.returns-clause-outs
returns-clause-outs c b frame inputs rules shape = (fires_well b frame inputs rules shape).1
