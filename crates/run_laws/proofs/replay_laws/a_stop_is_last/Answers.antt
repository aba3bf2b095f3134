use Rattle.run_laws.proofs.FinalStops.{nothing_behind, told}
use Rattle.run_laws.proofs.replay_laws.a_stop_is_last.Goals as goal

pub returns : goal.returns
returns c = record { nothing_behind = nothing_behind; told = told }
