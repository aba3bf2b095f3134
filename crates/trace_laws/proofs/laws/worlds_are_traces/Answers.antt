use Rattle.trace_laws.proofs.WorldDelays.{world_runs_are_carried}
use Rattle.trace_laws.proofs.WorldTraces.{worlds_are_traces}
use Rattle.trace_laws.proofs.laws.worlds_are_traces.Goals as goal

pub returns : goal.returns
returns c = record { lists = worlds_are_traces; world_runs = world_runs_are_carried }
