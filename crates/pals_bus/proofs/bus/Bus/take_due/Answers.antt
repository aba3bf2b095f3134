use Rattle.std.proofs.Common.{◌∙◌, ◌<◌, length, sym, subst, arith}
use Rattle.std.specs.Prelude.{IfNone, []}
use Rattle.std.proofs.lemmas.List.{get_or_default}
use Rattle.pals_bus.specs.proof.OutOfRangeDefaults.{no_queue}
use Rattle.pals_bus.specs.proof.DueMessages.{AreLeft, TakesDue}
use Rattle.pals_bus.specs.proof.BusInvariant.{value_of}
use Rattle.pals_bus.specs.BusValues.{BusValue}
use Rattle.pals_bus.proofs.DueEntriesAndCopies.{left_at_first}
use Rattle.pals_bus.proofs.FirstDueArrival.{none_due}
use Rattle.pals_bus.proofs.NodeEventCalls.{journal_shows}
use Rattle.pals_bus.proofs.bus.Bus.take_due.Goals as goal

pub arrive_all-requires-clause-left : goal.arrive_all-requires-clause-left
arrive_all-requires-clause-left c =
    let f = c.self.inside.fields in
    let g = c.reserve_arrivals.new.self in
    let node = c.args.node.0 in
    let reading = c.args.reading in
    let shows = journal_shows f g c.reserve_arrivals.ensures.others c.reserve_arrivals.ensures.items in
    let many = c.self.invariant.queues.count in
    let count = c.self.invariant.nodes.count in
    let there = subst (λ (b : BusValue). node < length b.run.design.components) (sym c.self.view_is) c.requires in
    let within : node < length f.queues = omega (arith, many, count, there) in
    let here = c.index.ensures ∙ get_or_default f.queues node c.index.result.now no_queue within in
    let left =
    left_at_first f node reading c.index.result.now c.in_ok-due.due.items c.self.invariant here
    c.in_ok-due.ensures in
    subst (λ (b : BusValue). AreLeft b node reading c.as_slice.result.now) (sym shows)
    (subst (AreLeft (value_of f) node reading) (sym c.as_slice.ensures.value) left)

pub returns-clause-ok : goal.returns-clause-ok
returns-clause-ok c =
    let f = c.self.inside.fields in
    let g = c.reserve_arrivals.new.self in
    let h = c.arrive_all.new.self in
    let node = c.args.node.0 in
    let reading = c.args.reading in
    let shows = journal_shows f g c.reserve_arrivals.ensures.others c.reserve_arrivals.ensures.items in
    let none = c.in_default-arrive_all.is in
    let left = subst (λ o. IfNone o (AreLeft (value_of h) node reading [])) none c.arrive_all.ensures.none_left in
    record {
      takes =
          subst (λ (b : BusValue). TakesDue node reading b (value_of h)) (shows ∙ c.self.view_is)
          c.arrive_all.ensures.takes;
      going = sym c.arrive_all.ensures.stop ∙ none;
      none_left = none_due (value_of h) node reading left;
    }
