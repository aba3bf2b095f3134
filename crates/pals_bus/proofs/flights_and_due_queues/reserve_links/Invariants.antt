use Rattle.pals_bus.proofs.RoundMessages.{IsReserved}
use Rattle.pals_bus.proofs.flights_and_due_queues.reserve_links.Given as goal

-- the first links have room
abbrev pub invariant-loop-link : goal.invariant-loop-link
invariant-loop-link l = IsReserved l.link-index l.numbers l.fn.flights l.flights
