use Rattle.run_laws.proofs.HistoryReplay.{histories_replay}
use Rattle.run_laws.proofs.history_and_trace_laws.histories_replay.Goals as goal

pub returns : goal.returns
returns c = histories_replay
