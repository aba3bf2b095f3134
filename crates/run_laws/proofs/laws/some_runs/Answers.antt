use Rattle.run_laws.proofs.TwoCounterRuns.{some_meeting_ends, some_list_ends}
use Rattle.run_laws.proofs.laws.some_runs.Goals as goal

pub returns : goal.returns
returns c = record { meeting = some_meeting_ends; lists = some_list_ends }
