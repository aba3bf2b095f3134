use Rattle.std.proofs.Common.{slice_index_or}
use Rattle.std.specs.Arc.{arc_value}
use Rattle.std.specs.Vec.Iter.{into_iter_items}
use Rattle.pals_bus.specs.proof.LinksFromNodes.{no_numbers}
use Rattle.pals_bus.proofs.NextOutgoingLink.{Reaches}
use Rattle.pals_bus.proofs.SendLoop.{Sending}
use Rattle.pals_bus.proofs.bus_fields.BusFields.send_messages.Given as goal

-- the first links from the node have their messages, and the others remain
abbrev pub invariant-loop-at : goal.invariant-loop-at
invariant-loop-at l =
    let first = l.fn.self in
    Reaches (Sending first l.self l.node.0 l.round l.reading l.fn.messages (into_iter_items l.messages)) l.node.0 l.at
    (arc_value first.design).links (slice_index_or first.outgoing l.node.0 no_numbers)
