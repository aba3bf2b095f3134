use Rattle.run_laws.proofs.RunHistories.{runs_are_histories}
use Rattle.run_laws.proofs.RunTraces.{runs_are_traces}
use Rattle.run_laws.proofs.history_and_trace_laws.runs_are_traces.Goals as goal

pub returns : goal.returns
returns c = record { history = runs_are_histories; trace = runs_are_traces }
