use Rattle.std.proofs.Common.{◌≡◌}
use Rattle.run_laws.specs.EventFaults.{clock_apart}
use Rattle.timed_world.proofs.FaultSearch.{readings_left}
use Rattle.timed_world.proofs.world.World.clock_apart.Given as goal

abbrev pub invariant-loop-index : goal.invariant-loop-index
invariant-loop-index l =
    readings_left (clock_apart l.self.bus.run l.time) l.readings 0
    ≡ readings_left (clock_apart l.self.bus.run l.time) l.readings l.index
