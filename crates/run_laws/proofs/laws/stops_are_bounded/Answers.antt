use Rattle.run_laws.proofs.BoundsBrokenAtStops.{stops_are_bounded}
use Rattle.run_laws.proofs.laws.stops_are_bounded.Goals as goal

pub returns : goal.returns
returns c = stops_are_bounded
