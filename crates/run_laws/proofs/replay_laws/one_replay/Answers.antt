use Rattle.run_laws.proofs.JournalStates.{one_replay}
use Rattle.run_laws.proofs.replay_laws.one_replay.Goals as goal

pub returns : goal.returns
returns c = one_replay
