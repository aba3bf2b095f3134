use Rattle.world_gen.proofs.CounterSchedulesAndFaults.{counters_are_scheduled, fast_is_scheduled, fast_faults}
use Rattle.world_gen.proofs.laws.schedules_of_counters.Goals as goal

pub returns : goal.returns
returns c = record { slow = counters_are_scheduled; fast = fast_is_scheduled; refused = fast_faults }
