use Rattle.std.proofs.Common.{◌∙◌, ◌<◌, ◌≤◌, length, slice_index_or, refl, ap, arith}
use Rattle.std.proofs.lemmas.List.{get_or_default}
use Rattle.std.proofs.lemmas.List.Elements.{All-from_get_or}
use Rattle.pals_base.specs.declared.basic_types.LinkNo.{LinkNo}
use Rattle.link_buffers.specs.proof.Flights.{FlightState}
use Rattle.pals_bus.specs.proof.OutOfRangeDefaults.{no_flight, no_link_no}
use Rattle.pals_bus.proofs.RoundMessages.{reserved_one}
use Rattle.pals_bus.proofs.flights_and_due_queues.reserve_links.Goals as goal

pub loop-link-preserved : goal.loop-link-preserved
loop-link-preserved c =
    let numbers = c.args.numbers.now in
    let k = c.loop-link.link-index in
    let link = slice_index_or numbers k no_link_no in
    let new = c.loop-link.flights in
    let many = c.loop-link.invariant.count in
    let all = c.requires k no_link_no c.loop-link-test.true in
    let within : link.0 < length new = omega (arith, many, all) in
    let here = c.index_mut.ensures.value ∙ get_or_default new link.0 c.index_mut.result.now no_flight within in
    let room = c.in_ok-reserve.ensures.room in
    let spare = ap (λ (f : FlightState). f.spare) here in
    reserved_one k numbers c.args.flights.now new link c.reserve.new.self c.loop-link.invariant refl within
    (c.reserve.ensures.copies ∙ ap (λ (f : FlightState). f.copies) here) (omega (arith, room, spare))
    (omega (arith, room))

pub returns-clause-room : goal.returns-clause-room
returns-clause-room c =
    let past = c.loop-link-test.false in
    All-from_get_or (λ (link : LinkNo). 1 ≤ (slice_index_or c.loop-link.flights link.0 no_flight).spare)
    c.args.numbers.now no_link_no (λ k lt. c.loop-link.invariant.room k (omega (arith, past, lt)))
