use Rattle.std.proofs.Common.{◌≡◌, ◌∙◌, ◌∷◌, [], ◌++◌, ◌<◌, List, length, None, sym, ap, subst, arith}
use Rattle.std.specs.Prelude.{vec_capacity}
use Rattle.std.specs.Arc.{arc_value}
use Rattle.std.proofs.lemmas.Grind.{common_steps}
use Rattle.pals_base.specs.declared.basic_types.PortValue.{PortValue}
use Rattle.pals_model.specs.declared.flight_copy.FlightCopy.{FlightCopy}
use Rattle.pals_runs.specs.declared.journal.JournalEntry.TheVariants as entry
use Rattle.bus_machine.specs.Machine.{Repeat}
use Rattle.pals_bus.specs.declared.bus_fields.BusFields.{BusFields}
use Rattle.pals_bus.specs.BusValues.{BusValue, Happens}
use Rattle.pals_bus.specs.proof.BusInvariant.{value_of}
use Rattle.pals_bus.proofs.NodeEventCalls.{room_shows}
use Rattle.pals_bus.proofs.Repeats.{Repeats, oldest_kept, repeat_happens, repeat_keeps_bus}
use Rattle.pals_bus.proofs.bus.Bus.repeat_message.Goals as goal

pub invariant_of-self-2 : goal.invariant_of-self-2
invariant_of-self-2 c =
    let old = c.self.inside.fields in
    let f = c.reserve_message.new.self in
    let s = c.add_message.new.self in
    let link = c.args.link in
    let round = c.args.round in
    let first : FlightCopy = c.in-Some-flight_oldest.oldest.now in
    let copy : FlightCopy = record { round = first.round; due = first.due; tuple = c.in_ok-tuple.tuple } in
    let g : BusFields = record s { journal = c.push_reserved.new.self } in
    let going : old.stop ≡ None = grind (arith, common_steps) in
    let same : copy ≡ first =
    ap (λ (ports : List PortValue). let u : FlightCopy =
    record { round = first.round; due = first.due; tuple = ports } in u) c.in_ok-tuple.ensures in
    let there : link.0 < length (arc_value old.design).links =
    subst (λ (b : BusValue). link.0 < length b.run.design.links) (sym c.self.view_is) c.requires in
    let more = c.reserve_message.ensures in
    let adds = c.add_message.ensures in
    let repeats : Repeats f g link round copy = record {
      is_copy =
          oldest_kept old f link.0 round c.index.result.now first copy c.self.invariant there more.copies
          c.index.ensures c.in-Some-flight_oldest.ensures same;
      flights = adds.flights;
      queues = adds.queues;
      others = ap (λ (k : BusFields). let u : BusFields = record k { journal = g.journal } in u) adds.others;
      told =
          c.push_reserved.ensures.items
          ∙ ap (λ (k : BusFields). k.journal.items ++ entry.Repeat link round ∷ []) adds.others;
    } in
    let within : link.0 < length (arc_value f.design).links =
    subst (λ (k : BusFields). link.0 < length (arc_value k.design).links) (sym more.others) there in
    let happens = repeat_happens f g link round copy (ap (λ (k : BusFields). k.stop) more.others ∙ going) repeats in
    let capacity = c.push_reserved.ensures.capacity ∙ ap (λ (k : BusFields). vec_capacity k.journal) adds.others in
    let room = c.in_ok-reserve_message.ensures.entries in
    repeat_keeps_bus f g link round copy more.keeps within repeats happens c.in_ok-reserve_message.ensures.room
    c.in_ok-reserve_message.ensures.queue (omega (arith, capacity, room))

pub returns-clause-ok : goal.returns-clause-ok
returns-clause-ok c =
    let old = c.self.inside.fields in
    let f = c.reserve_message.new.self in
    let s = c.add_message.new.self in
    let link = c.args.link in
    let round = c.args.round in
    let first : FlightCopy = c.in-Some-flight_oldest.oldest.now in
    let copy : FlightCopy = record { round = first.round; due = first.due; tuple = c.in_ok-tuple.tuple } in
    let g : BusFields = record s { journal = c.push_reserved.new.self } in
    let going : old.stop ≡ None = grind (arith, common_steps) in
    let same : copy ≡ first =
    ap (λ (ports : List PortValue). let u : FlightCopy =
    record { round = first.round; due = first.due; tuple = ports } in u) c.in_ok-tuple.ensures in
    let there : link.0 < length (arc_value old.design).links =
    subst (λ (b : BusValue). link.0 < length b.run.design.links) (sym c.self.view_is) c.requires in
    let more = c.reserve_message.ensures in
    let adds = c.add_message.ensures in
    let repeats : Repeats f g link round copy = record {
      is_copy =
          oldest_kept old f link.0 round c.index.result.now first copy c.self.invariant there more.copies
          c.index.ensures c.in-Some-flight_oldest.ensures same;
      flights = adds.flights;
      queues = adds.queues;
      others = ap (λ (k : BusFields). let u : BusFields = record k { journal = g.journal } in u) adds.others;
      told =
          c.push_reserved.ensures.items
          ∙ ap (λ (k : BusFields). k.journal.items ++ entry.Repeat link round ∷ []) adds.others;
    } in
    let happens = repeat_happens f g link round copy (ap (λ (k : BusFields). k.stop) more.others ∙ going) repeats in
    subst (λ (b : BusValue). Happens b (Repeat link round) (value_of g))
    (room_shows old f more.others more.copies more.items ∙ c.self.view_is) happens
