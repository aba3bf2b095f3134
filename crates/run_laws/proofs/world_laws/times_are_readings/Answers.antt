use Rattle.run_laws.proofs.WorldTimeRanges.{times_are_readings}
use Rattle.run_laws.proofs.world_laws.times_are_readings.Goals as goal

pub returns : goal.returns
returns c = times_are_readings
