use Rattle.std.proofs.Common.{take}
use Rattle.timed_world.specs.proof.EventLists.{Leads}
use Rattle.world_texts.proofs.ring_result.go_through.Given as goal

-- the first events have happened
abbrev pub invariant-loop-event : goal.invariant-loop-event
invariant-loop-event l = Leads l.fn.world (take l.event-index l.events) l.world
