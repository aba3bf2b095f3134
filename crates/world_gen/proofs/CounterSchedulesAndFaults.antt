-- The schedules of two counters and the faults of events that leave them, computed.
use Rattle.std.proofs.Common.{refl}
use Rattle.pals_base.specs.SingleStep.{fire}
use Rattle.world_gen.specs.proof.CounterSchedulesAndFaults.{CountersAreScheduled, FastIsScheduled, FastFaults}

pub counters_are_scheduled : CountersAreScheduled
unfolding fire
counters_are_scheduled = record { events = refl; within = refl }

pub fast_is_scheduled : FastIsScheduled
fast_is_scheduled = refl

pub fast_faults : FastFaults
unfolding fire
fast_faults = record {
  runs = refl;
  early = refl;
  late = refl;
  short = refl;
  long = refl;
  few = refl;
  unsent = refl;
  soon = refl;
  lost = refl;
  within = refl;
}
