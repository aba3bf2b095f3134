use Rattle.pals_bus.proofs.QueueChanges.{IsQueuesReserved}
use Rattle.pals_bus.proofs.flights_and_due_queues.reserve_queues.Given as goal

-- the queues that the first links go to have room
abbrev pub invariant-loop-link : goal.invariant-loop-link
invariant-loop-link l = IsQueuesReserved l.link-index l.numbers l.links l.fn.queues l.queues
