use Rattle.std.proofs.Common.{◌≡◌, length}
use Rattle.run_laws.specs.EventFaults.{link_past}
use Rattle.timed_world.specs.proof.WorldValuesAndMoves.{world_of}
use Rattle.timed_world.proofs.FaultSearch.{numbers_left}
use Rattle.timed_world.proofs.world.World.late_message.Given as goal

abbrev pub invariant-loop-index : goal.invariant-loop-index
invariant-loop-index l =
    let past = link_past l.self.bus.run (world_of l.self) l.time in
    let count = length l.self.bus.run.design.links in
    numbers_left past count 0 ≡ numbers_left past count l.index
