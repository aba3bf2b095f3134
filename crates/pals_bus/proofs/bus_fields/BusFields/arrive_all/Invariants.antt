use Rattle.pals_bus.proofs.ArrivalLoop.{Arriving}
use Rattle.pals_bus.proofs.bus_fields.BusFields.arrive_all.Given as goal

-- the first messages have arrived
abbrev pub invariant-loop-message : goal.invariant-loop-message
invariant-loop-message l = Arriving l.fn.self l.self l.fn.node.0 l.reading l.message-index l.due
