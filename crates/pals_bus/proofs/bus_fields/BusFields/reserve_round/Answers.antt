use Rattle.std.proofs.Common.{◌≡◌, ◌∙◌, ℕ, ◌<◌, List, length, All, refl, sym, ap, subst, arith}
use Rattle.std.specs.Arc.{arc_value}
use Rattle.list_lemmas.proofs.Results.{OnOk-always}
use Rattle.pals_base.specs.declared.basic_types.LinkNo.{LinkNo}
use Rattle.pals_model.specs.declared.design.DesignParts.{DesignParts}
use Rattle.pals_model.specs.declared.design.Link.{Link}
use Rattle.pals_bus.specs.declared.bus_fields.BusFields.{BusFields}
use Rattle.pals_bus.specs.proof.LinksFromNodes.{links_from}
use Rattle.pals_bus.specs.proof.DueQueues.{HasQueueRoomFor, HasQueueRoomOn}
use Rattle.pals_bus.specs.proof.RoundMessages.{HasRoomFor, HasRoomOn}
use Rattle.pals_bus.proofs.LinksFromNodes.{numbers_within, room_for, queue_room_for}
use Rattle.pals_bus.proofs.RoomReservations.{more_room}
use Rattle.pals_bus.proofs.bus_fields.BusFields.reserve_round.Goals as goal

pub returns-in_err-reserve_links-clause-keeps : goal.returns-in_err-reserve_links-clause-keeps
returns-in_err-reserve_links-clause-keeps c =
    more_room c.args.self.now c.reserve_links.new.flights c.args.self.now.queues c.requires.keeps
    c.reserve_links.ensures.copies c.reserve_links.ensures.others refl (λ k. omega arith)

pub returns-in_err-reserve_queues-clause-keeps : goal.returns-in_err-reserve_queues-clause-keeps
returns-in_err-reserve_queues-clause-keeps c =
    more_room c.args.self.now c.reserve_links.new.flights c.reserve_queues.new.queues c.requires.keeps
    c.reserve_links.ensures.copies c.reserve_links.ensures.others c.reserve_queues.ensures.entries
    c.reserve_queues.ensures.others

pub reserve_entries-requires : goal.reserve_entries-requires
reserve_entries-requires c = record {
  keeps =
      more_room c.args.self.now c.reserve_links.new.flights c.reserve_queues.new.queues c.requires.keeps
      c.reserve_links.ensures.copies c.reserve_links.ensures.others c.reserve_queues.ensures.entries
      c.reserve_queues.ensures.others;
}

pub reserve_links-requires : goal.reserve_links-requires
reserve_links-requires c =
    let f = c.args.self.now in
    let keeps = c.requires.keeps in
    let numbers = c.links_from-numbers.ensures ∙ keeps.outgoing.each c.args.node.0 c.requires.node in
    subst (λ (ns : List LinkNo). All (λ (link : LinkNo). link.0 < length f.flights) ns) (sym numbers)
    (subst (λ (n : ℕ). All (λ (link : LinkNo). link.0 < n) (links_from c.args.node.0 (arc_value f.design).links))
    (sym keeps.flight_count) (numbers_within c.args.node.0 (arc_value f.design).links))

pub returns-clause-room : goal.returns-clause-room
returns-clause-room c =
    let f = c.args.self.now in
    let node = c.args.node.0 in
    let links = (arc_value f.design).links in
    let numbers = c.links_from-numbers.ensures ∙ c.requires.keeps.outgoing.each node c.requires.node in
    let room =
    room_for node links c.reserve_links.new.flights
    (subst (λ (ns : List LinkNo). HasRoomOn ns c.reserve_links.new.flights) numbers
    c.in_ok-reserve_links.ensures.room) in
    OnOk-always c.reserve_entries.result _
    (subst (λ (k : BusFields). HasRoomFor node (length (arc_value k.design).links) (arc_value k.design).links
    k.flights) (sym c.reserve_entries.ensures.others) room)

pub returns-clause-queues : goal.returns-clause-queues
returns-clause-queues c =
    let f = c.args.self.now in
    let node = c.args.node.0 in
    let links = (arc_value f.design).links in
    let queues = c.reserve_queues.new.queues in
    let numbers = c.links_from-numbers.ensures ∙ c.requires.keeps.outgoing.each node c.requires.node in
    let same : c.links-links.result.now ≡ links = c.links-links.ensures.value
    ∙ ap (λ (d : DesignParts). d.links) c.deref.ensures in
    let on =
    subst (λ (ls : List Link). HasQueueRoomOn c.links_from-numbers.result.now ls queues) same
    c.in_ok-reserve_queues.ensures.room in
    let room =
    queue_room_for node links queues (subst (λ (ns : List LinkNo). HasQueueRoomOn ns links queues) numbers on) in
    OnOk-always c.reserve_entries.result _
    (subst (λ (k : BusFields). HasQueueRoomFor node (arc_value k.design).links k.queues)
    (sym c.reserve_entries.ensures.others) room)
