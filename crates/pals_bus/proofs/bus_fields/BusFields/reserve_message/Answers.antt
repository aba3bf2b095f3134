use Rattle.std.proofs.Common.{◌∙◌, ◌<◌, length, ap, arith}
use Rattle.pals_model.specs.declared.design.DesignParts.{DesignParts}
use Rattle.link_buffers.specs.proof.DueQueues.{QueueState}
use Rattle.pals_bus.specs.declared.bus_fields.BusFields.{BusFields}
use Rattle.pals_bus.specs.proof.BusInvariant.{copies_in}
use Rattle.pals_bus.proofs.RoomReservations.{flight_copies, message_room}
use Rattle.pals_bus.proofs.bus_fields.BusFields.reserve_message.Goals as goal

pub returns-in_err-reserve-2-clause-keeps : goal.returns-in_err-reserve-2-clause-keeps
returns-in_err-reserve-2-clause-keeps c =
    let f = c.args.self.now in
    let links = c.links.ensures.value ∙ ap (λ (d : DesignParts). d.links) c.deref.ensures in
    let room = c.in_ok-reserve.ensures.room in
    let same = c.in_err-reserve-2.ensures.same in
    let spare = ap (λ (q : QueueState). q.spare) same in
    message_room f c.links.result.now c.args.link c.index_mut.result.now c.reserve.new.self c.index_mut-2.result.now
    c.reserve-2.new.self c.requires.keeps links c.requires.link
    c.index_mut.ensures.value c.reserve.ensures.copies (omega (arith, room)) c.index_mut-2.ensures.value
    c.reserve-2.ensures.entries (omega (arith, spare))

pub returns-in_err-reserve-2-clause-copies : goal.returns-in_err-reserve-2-clause-copies
returns-in_err-reserve-2-clause-copies c =
    let f = c.args.self.now in
    let count = c.requires.keeps.flight_count in
    let link = c.requires.link in
    let flies : c.args.link.0 < length f.flights = omega (arith, count, link) in
    flight_copies f.flights c.args.link.0 c.index_mut.result.now c.reserve.new.self flies c.index_mut.ensures.value
    c.reserve.ensures.copies

pub reserve_entries-requires : goal.reserve_entries-requires
reserve_entries-requires c =
    let f = c.args.self.now in
    let links = c.links.ensures.value ∙ ap (λ (d : DesignParts). d.links) c.deref.ensures in
    let room = c.in_ok-reserve.ensures.room in
    let queue_room = c.in_ok-reserve-2.ensures.room in
    record {
      keeps =
          message_room f c.links.result.now c.args.link c.index_mut.result.now c.reserve.new.self
          c.index_mut-2.result.now c.reserve-2.new.self c.requires.keeps links c.requires.link
          c.index_mut.ensures.value c.reserve.ensures.copies (omega (arith, room)) c.index_mut-2.ensures.value
          c.reserve-2.ensures.entries (omega (arith, queue_room));
    }

pub returns-clause-copies : goal.returns-clause-copies
returns-clause-copies c =
    let f = c.args.self.now in
    let count = c.requires.keeps.flight_count in
    let link = c.requires.link in
    let flies : c.args.link.0 < length f.flights = omega (arith, count, link) in
    ap (λ (k : BusFields). copies_in k.flights) c.reserve_entries.ensures.others
    ∙ flight_copies f.flights c.args.link.0 c.index_mut.result.now c.reserve.new.self flies c.index_mut.ensures.value
    c.reserve.ensures.copies
