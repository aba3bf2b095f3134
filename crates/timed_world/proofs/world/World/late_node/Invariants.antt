use Rattle.std.proofs.Common.{◌≡◌, length}
use Rattle.run_laws.specs.EventFaults.{node_past}
use Rattle.timed_world.specs.proof.WorldValuesAndMoves.{world_of}
use Rattle.timed_world.proofs.FaultSearch.{numbers_left}
use Rattle.timed_world.proofs.world.World.late_node.Given as goal

abbrev pub invariant-loop-index : goal.invariant-loop-index
invariant-loop-index l =
    let past = node_past l.self.bus.run (world_of l.self) l.time in
    let count = length l.self.bus.run.design.components in
    numbers_left past count 0 ≡ numbers_left past count l.index
