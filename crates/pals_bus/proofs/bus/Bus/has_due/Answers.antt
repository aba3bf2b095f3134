use Rattle.std.proofs.Common.{◌≡◌, ◌↔◌, ◌∙◌, ◌<◌, nat_lt, length, sym, subst, IsTrue, arith, rules, tests}
use Rattle.std.proofs.lemmas.List.{get_or_default}
use Rattle.pals_bus.specs.proof.OutOfRangeDefaults.{no_queue}
use Rattle.pals_bus.specs.proof.DueMessages.{HasDue}
use Rattle.pals_bus.specs.proof.BusInvariant.{value_of}
use Rattle.pals_bus.specs.BusValues.{BusValue}
use Rattle.pals_bus.proofs.DueEntriesAndCopies.{due_by_queue}
use Rattle.pals_bus.proofs.ArrivalLoop.{flights_many}
use Rattle.pals_bus.proofs.InvariantConsequences.{within_nodes}
use Rattle.pals_bus.proofs.bus.Bus.has_due.Goals as goal

pub returns : goal.returns
returns c =
    let f = c.self.inside.fields in
    let node = c.args.node.0 in
    let reading = c.args.reading in
    let count = c.due_count.result in
    let shows : value_of f ≡ c.args.self.now = cc in
    let there =
    within_nodes f node c.self.invariant
    (subst (λ (b : BusValue). node < length b.run.design.components) (sym shows) c.requires) in
    let many = c.self.invariant.queues.count in
    let within : node < length f.queues = omega (arith, many, there) in
    let here = c.index.ensures ∙ get_or_default f.queues node c.index.result.now no_queue within in
    let both =
    due_by_queue f node reading c.index.result.now c.self.invariant here (flights_many f c.self.invariant) count
    c.due_count.ensures.count in
    subst (λ (b : BusValue). IsTrue (nat_lt 0 count) ↔ HasDue b node reading) shows
    (λ yes. both.0 (search (rules, tests)), λ due. let some = both.1 due in search (rules, tests))
