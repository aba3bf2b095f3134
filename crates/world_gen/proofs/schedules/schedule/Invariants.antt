use Rattle.std.proofs.Common.{◌+◌, ◌-◌, ◌≤◌}
use Rattle.pals_base.specs.declared.limits.TheConstants.{READING}
use Rattle.world_gen.proofs.PartialSchedules.{IsSoFar}
use Rattle.world_gen.proofs.schedules.schedule.Given as goal

abbrev pub invariant-loop-moment : goal.invariant-loop-moment
invariant-loop-moment l = record { so_far : IsSoFar l.design l.rounds l.from l.events; within : l.from ≤ READING + 1 }

abbrev pub decreases-loop-moment : goal.decreases-loop-moment
decreases-loop-moment l = READING + 1 - l.from
