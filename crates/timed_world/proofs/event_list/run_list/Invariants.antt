use Rattle.std.proofs.Common.{take}
use Rattle.timed_world.specs.proof.EventLists.{Leads}
use Rattle.timed_world.proofs.event_list.run_list.Given as goal

abbrev pub invariant-loop-index : goal.invariant-loop-index
invariant-loop-index l =
    Leads l.fn.world (take l.index l.events) l.world
