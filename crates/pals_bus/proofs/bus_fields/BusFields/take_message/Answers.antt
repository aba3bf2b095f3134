use Rattle.std.proofs.Common.{◌≡◌, ◌∙◌, ◌<◌, length, None, sym, ap, arith}
use Rattle.pals_model.specs.declared.design.DesignParts.{DesignParts}
use Rattle.pals_model.specs.Flights.{oldest}
use Rattle.pals_bus.proofs.OldestCopyRemoval.{none_taken, oldest_none, taken_copies, queues_left}
use Rattle.pals_bus.proofs.bus_fields.BusFields.take_message.Goals as goal

pub returns-in_err-due-clause-copies : goal.returns-in_err-due-clause-copies
returns-in_err-due-clause-copies c =
    let f = c.args.self.now in
    let count = c.requires.keeps.flight_count in
    let link = c.requires.link in
    let flies : c.args.link.0 < length f.flights = omega (arith, count, link) in
    let none : oldest c.args.round c.index.result.now.copies ≡ None = sym c.in_err-due.ensures in
    none_taken f.flights c.args.link.0 c.args.round
    (oldest_none f.flights c.args.link.0 c.args.round c.index.result.now flies c.index.ensures none)

pub returns-clause-copies : goal.returns-clause-copies
returns-clause-copies c =
    let f = c.args.self.now in
    let count = c.requires.keeps.flight_count in
    let link = c.requires.link in
    let flies : c.args.link.0 < length f.flights = omega (arith, count, link) in
    taken_copies f.flights c.args.link.0 c.args.round c.index_mut-2.result.now c.flight_take.new.self flies
    c.index_mut-2.ensures.value c.flight_take.ensures.others

pub returns-clause-queues : goal.returns-clause-queues
returns-clause-queues c =
    let f = c.args.self.now in
    let links = c.links.ensures.value ∙ ap (λ (d : DesignParts). d.links) c.deref.ensures in
    queues_left f c.links.result.now c.args.link c.args.round c.in_ok-due.field-0.now c.index.result.now
    c.index_mut-2.result.now c.flight_take.new.self c.index_mut.result.now c.remove_due.new.queue c.requires.keeps
    links c.requires.link
    c.index.ensures c.in_ok-due.ensures c.index_mut-2.ensures.value c.flight_take.ensures.others
    c.index_mut.ensures.value c.remove_due.ensures.entries c.remove_due.ensures.spare
