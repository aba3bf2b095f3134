use Rattle.std.proofs.Common.{◌≡◌, ◌∙◌, ◌+◌, ◌≤◌, ℕ, Option, sym, ap, subst, arith}
use Rattle.std.specs.Prelude.{option_map, slice_index_or, slice_set}
use Rattle.std.specs.Arc.{arc_value}
use Rattle.std.specs.Vec.Iter.{into_iter_items}
use Rattle.pals_base.specs.declared.limits.TheConstants.{HOUR}
use Rattle.pals_model.specs.declared.flight_copy.FlightCopy.{FlightCopy}
use Rattle.pals_model.specs.Delays.{delay_of}
use Rattle.bus_machine.specs.Plans.{link_at}
use Rattle.pals_bus.specs.declared.bus_fields.BusFields.{BusFields}
use Rattle.pals_bus.specs.proof.OutOfRangeDefaults.{no_link_no, no_queue}
use Rattle.pals_bus.specs.proof.LinksFromNodes.{no_numbers}
use Rattle.pals_bus.specs.proof.DueQueues.{with_due}
use Rattle.pals_bus.proofs.NextOutgoingLink.{reaches_more}
use Rattle.pals_bus.proofs.SendLoop.{CanSend, Sending, own_links, sending_all, sending_delay, sending_more}
use Rattle.pals_bus.proofs.SendLoop.{sending_places, sending_room, sending_queue_room, message_left}
use Rattle.pals_bus.proofs.bus_fields.BusFields.send_messages.Goals as goal

pub unreachable-requires : goal.unreachable-requires
unreachable-requires c =
    let first = c.args.self.now in
    let now = c.loop-at.self in
    let node = c.args.node.0 in
    let left = into_iter_items c.loop-at.messages in
    let here =
    own_links first now node c.args.round c.args.reading c.args.messages left c.loop-at.at c.links_from.result.now
    c.links_from-at-end.result.now c.loop-at.invariant c.links_from-at-end.ensures c.loop-at-test.true
    c.links_from.ensures in
    let link = slice_index_or c.links_from.result.now c.loop-at.at no_link_no in
    let can : CanSend first node c.args.messages =
    record {
      design = c.requires.design;
      flights = c.requires.count;
      nodes = c.requires.nodes;
      count = c.requires.messages;
    } in
    let some =
    message_left first now node c.args.round c.args.reading c.args.messages left link.0 can here.holds
    here.within here.own in
    let none = c.in-None.ensures.cases.0 in
    let size = c.loop-at.messages.rest.ok.0 in
    absurd (omega (arith, some, none, size))

pub delay-requires : goal.delay-requires
delay-requires c =
    let first = c.args.self.now in
    let now = c.loop-at.self in
    let node = c.args.node.0 in
    let left = into_iter_items c.loop-at.messages in
    let here =
    own_links first now node c.args.round c.args.reading c.args.messages left c.loop-at.at c.links_from.result.now
    c.links_from-at-end.result.now c.loop-at.invariant c.links_from-at-end.ensures c.loop-at-test.true
    c.links_from.ensures in
    let link = slice_index_or c.links_from.result.now c.loop-at.at no_link_no in
    (sending_delay first now node c.args.round c.args.reading c.args.messages left link.0 here.holds c.requires.delays
    here.within).0

pub due_at-due-requires-clause-delay : goal.due_at-due-requires-clause-delay
due_at-due-requires-clause-delay c =
    let first = c.args.self.now in
    let now = c.loop-at.self in
    let node = c.args.node.0 in
    let left = into_iter_items c.loop-at.messages in
    let here =
    own_links first now node c.args.round c.args.reading c.args.messages left c.loop-at.at c.links_from.result.now
    c.links_from-at-end.result.now c.loop-at.invariant c.links_from-at-end.ensures c.loop-at-test.true
    c.links_from.ensures in
    let link = slice_index_or c.links_from.result.now c.loop-at.at no_link_no in
    subst (λ (d : ℕ). d ≤ HOUR) (sym c.delay.ensures)
    (sending_delay first now node c.args.round c.args.reading c.args.messages left link.0 here.holds
    c.requires.delays here.within).1

pub add_message-requires-clause-link : goal.add_message-requires-clause-link
add_message-requires-clause-link c =
    let first = c.args.self.now in
    let now = c.loop-at.self in
    let node = c.args.node.0 in
    let left = into_iter_items c.loop-at.messages in
    let here =
    own_links first now node c.args.round c.args.reading c.args.messages left c.loop-at.at c.links_from.result.now
    c.links_from-at-end.result.now c.loop-at.invariant c.links_from-at-end.ensures c.loop-at-test.true
    c.links_from.ensures in
    let link = slice_index_or c.links_from.result.now c.loop-at.at no_link_no in
    let can : CanSend first node c.args.messages =
    record {
      design = c.requires.design;
      flights = c.requires.count;
      nodes = c.requires.nodes;
      count = c.requires.messages;
    } in
    (sending_places first now node c.args.round c.args.reading c.args.messages left link.0 can here.holds here.within).0

pub add_message-requires-clause-number : goal.add_message-requires-clause-number
add_message-requires-clause-number c =
    let first = c.args.self.now in
    let now = c.loop-at.self in
    let node = c.args.node.0 in
    let left = into_iter_items c.loop-at.messages in
    let here =
    own_links first now node c.args.round c.args.reading c.args.messages left c.loop-at.at c.links_from.result.now
    c.links_from-at-end.result.now c.loop-at.invariant c.links_from-at-end.ensures c.loop-at-test.true
    c.links_from.ensures in
    let link = slice_index_or c.links_from.result.now c.loop-at.at no_link_no in
    let can : CanSend first node c.args.messages =
    record {
      design = c.requires.design;
      flights = c.requires.count;
      nodes = c.requires.nodes;
      count = c.requires.messages;
    } in
    (sending_places first now node c.args.round c.args.reading c.args.messages left link.0 can here.holds
    here.within).1.0

pub add_message-requires-clause-target : goal.add_message-requires-clause-target
add_message-requires-clause-target c =
    let first = c.args.self.now in
    let now = c.loop-at.self in
    let node = c.args.node.0 in
    let left = into_iter_items c.loop-at.messages in
    let here =
    own_links first now node c.args.round c.args.reading c.args.messages left c.loop-at.at c.links_from.result.now
    c.links_from-at-end.result.now c.loop-at.invariant c.links_from-at-end.ensures c.loop-at-test.true
    c.links_from.ensures in
    let link = slice_index_or c.links_from.result.now c.loop-at.at no_link_no in
    let can : CanSend first node c.args.messages =
    record {
      design = c.requires.design;
      flights = c.requires.count;
      nodes = c.requires.nodes;
      count = c.requires.messages;
    } in
    (sending_places first now node c.args.round c.args.reading c.args.messages left link.0 can here.holds
    here.within).1.1

pub add_message-requires-clause-room : goal.add_message-requires-clause-room
add_message-requires-clause-room c =
    let first = c.args.self.now in
    let now = c.loop-at.self in
    let node = c.args.node.0 in
    let left = into_iter_items c.loop-at.messages in
    let here =
    own_links first now node c.args.round c.args.reading c.args.messages left c.loop-at.at c.links_from.result.now
    c.links_from-at-end.result.now c.loop-at.invariant c.links_from-at-end.ensures c.loop-at-test.true
    c.links_from.ensures in
    let link = slice_index_or c.links_from.result.now c.loop-at.at no_link_no in
    sending_room first now node c.args.round c.args.reading c.args.messages left link.0 here.holds c.requires.room
    here.within here.own

pub add_message-requires-clause-queue : goal.add_message-requires-clause-queue
add_message-requires-clause-queue c =
    let first = c.args.self.now in
    let now = c.loop-at.self in
    let node = c.args.node.0 in
    let left = into_iter_items c.loop-at.messages in
    let here =
    own_links first now node c.args.round c.args.reading c.args.messages left c.loop-at.at c.links_from.result.now
    c.links_from-at-end.result.now c.loop-at.invariant c.links_from-at-end.ensures c.loop-at-test.true
    c.links_from.ensures in
    let link = slice_index_or c.links_from.result.now c.loop-at.at no_link_no in
    subst (λ (k : BusFields). 1
    ≤ (slice_index_or now.queues (link_at (arc_value k.design) link.0).target.0 no_queue).spare)
    (sym here.holds.others)
    (sending_queue_room first now node c.args.round c.args.reading c.args.messages left link.0 here.holds
    here.within here.own)

pub loop-at-preserved : goal.loop-at-preserved
loop-at-preserved c =
    let first = c.args.self.now in
    let now = c.loop-at.self in
    let node = c.args.node.0 in
    let left = into_iter_items c.loop-at.messages in
    let here =
    own_links first now node c.args.round c.args.reading c.args.messages left c.loop-at.at c.links_from.result.now
    c.links_from-at-end.result.now c.loop-at.invariant c.links_from-at-end.ensures c.loop-at-test.true
    c.links_from.ensures in
    let link = slice_index_or c.links_from.result.now c.loop-at.at no_link_no in
    let can : CanSend first node c.args.messages =
    record {
      design = c.requires.design;
      flights = c.requires.count;
      nodes = c.requires.nodes;
      count = c.requires.messages;
    } in
    let next = c.add_message.new.self in
    let adds = c.add_message.ensures in
    let round = c.args.round in
    let reading = c.args.reading in
    let tuple = c.in-Some.tuple in
    let rest = into_iter_items c.next.new.self in
    let copy : FlightCopy = record { round = round; due = c.due_at-due.result; tuple = tuple } in
    let delay = c.delay.ensures ∙ ap (λ (k : BusFields). delay_of k.delays link.0 round) here.holds.others in
    let due = c.due_at-due.ensures ∙ ap (λ (d : ℕ). option_map (λ (sent : ℕ). sent + d) reading) delay in
    let is = ap (λ (o : Option ℕ). let u : FlightCopy = record { round = round; due = o; tuple = tuple } in u) due in
    let queues =
    subst (λ (k : BusFields). next.queues
    ≡ slice_set now.queues (link_at (arc_value k.design) link.0).target.0
    (with_due (slice_index_or now.queues (link_at (arc_value k.design) link.0).target.0 no_queue) copy.due link
    copy.round)) here.holds.others adds.queues in
    let more =
    sending_more first now next node round reading c.args.messages left rest link tuple copy can here.holds
    here.within here.own c.in-Some.ensures.items is adds.flights queues adds.others in
    reaches_more (Sending first now node round reading c.args.messages left)
    (Sending first next node round reading c.args.messages rest) node c.loop-at.at (arc_value first.design).links
    (slice_index_or first.outgoing node no_numbers) link here more

pub returns-clause-sent : goal.returns-clause-sent
returns-clause-sent c =
    let past = c.loop-at-test.false in
    (sending_all c.args.self.now c.loop-at.self c.args.node.0 c.args.round c.args.reading c.args.messages
    (into_iter_items c.loop-at.messages) c.loop-at.at c.links_from-at-end.result.now c.loop-at.invariant
    c.links_from-at-end.ensures (omega (arith, past))).sent
