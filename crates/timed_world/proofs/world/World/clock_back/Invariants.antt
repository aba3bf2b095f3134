use Rattle.std.proofs.Common.{◌≡◌}
use Rattle.run_laws.specs.EventFaults.{clock_back}
use Rattle.timed_world.specs.proof.WorldValuesAndMoves.{world_of}
use Rattle.timed_world.proofs.FaultSearch.{readings_left}
use Rattle.timed_world.proofs.world.World.clock_back.Given as goal

abbrev pub invariant-loop-index : goal.invariant-loop-index
invariant-loop-index l =
    readings_left (clock_back (world_of l.self)) l.readings 0
    ≡ readings_left (clock_back (world_of l.self)) l.readings l.index
