use Rattle.run_laws.proofs.TimelyRunsAndEnds.{none_stops, bounds_are_in_time, ends_are_one, picked_are_done}
use Rattle.run_laws.proofs.laws.runs_in_time.Goals as goal

pub returns : goal.returns
returns c = record { stop = none_stops; bounds = bounds_are_in_time; end = ends_are_one; done = picked_are_done }
