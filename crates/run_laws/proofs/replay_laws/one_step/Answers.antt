use Rattle.run_laws.proofs.JournalStates.{one_step}
use Rattle.run_laws.proofs.replay_laws.one_step.Goals as goal

pub returns : goal.returns
returns c = one_step
