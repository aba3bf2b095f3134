use Rattle.std.proofs.Common.{◌∙◌, ◌<◌, ◌≤◌, length, slice_index_or, refl, ap, arith}
use Rattle.std.proofs.lemmas.List.{get_or_default}
use Rattle.std.proofs.lemmas.List.Elements.{All-from_get_or}
use Rattle.pals_base.specs.declared.limits.TheConstants.{PORTS}
use Rattle.pals_base.specs.declared.basic_types.LinkNo.{LinkNo}
use Rattle.link_buffers.specs.proof.DueQueues.{QueueState}
use Rattle.bus_machine.specs.Plans.{no_link}
use Rattle.pals_bus.specs.proof.OutOfRangeDefaults.{no_link_no, no_queue}
use Rattle.pals_bus.proofs.QueueChanges.{queues_reserved_one}
use Rattle.pals_bus.proofs.flights_and_due_queues.reserve_queues.Goals as goal

pub loop-link-preserved : goal.loop-link-preserved
loop-link-preserved c =
    let numbers = c.args.numbers.now in
    let links = c.args.links.now in
    let k = c.loop-link.link-index in
    let link = slice_index_or numbers k no_link_no in
    let target = (slice_index_or links link.0 no_link).target.0 in
    let new = c.loop-link.queues in
    let many = c.loop-link.invariant.count in
    let all = c.requires.targets link.0 no_link (c.requires.numbers k no_link_no c.loop-link-test.true) in
    let within : target < length new = omega (arith, many, all) in
    let here = c.index_mut.ensures.value ∙ get_or_default new target c.index_mut.result.now no_queue within in
    let room = c.in_ok-reserve.ensures.room in
    let spare = ap (λ (q : QueueState). q.spare) here in
    queues_reserved_one k numbers links c.args.queues.now new link target c.reserve.new.self c.loop-link.invariant refl
    refl within (c.reserve.ensures.entries ∙ ap (λ (q : QueueState). q.entries) here) (omega (arith, room, spare))
    (omega (arith, room))

pub returns-clause-room : goal.returns-clause-room
returns-clause-room c =
    let past = c.loop-link-test.false in
    All-from_get_or (λ (link : LinkNo). PORTS
    ≤ (slice_index_or c.loop-link.queues (slice_index_or c.args.links.now link.0 no_link).target.0 no_queue).spare)
    c.args.numbers.now no_link_no
    (λ k lt. c.loop-link.invariant.room k (omega (arith, past, lt)))
