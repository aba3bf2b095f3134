use Rattle.std.proofs.Common.{◌≡◌, List, Some, None, inr, refl, ap, subst, arith}
use Rattle.std.proofs.lemmas.Grind.{common_steps}
use Rattle.pals_runs.specs.declared.journal.JournalEntry.TheVariants as entry
use Rattle.pals_node.specs.proof.Answers.{StartEnds}
use Rattle.pals_node.specs.proof.NodeAndJobValues.{NodeValue}
use Rattle.pals_bus.specs.declared.bus_fields.BusFields.{BusFields}
use Rattle.pals_bus.specs.proof.NodeLists.{node_of}
use Rattle.pals_bus.proofs.ChangedNodeValues.{Turned}
use Rattle.pals_bus.proofs.NodeEventCalls.{HasRoundRoom, is_ready, starts, misses}
use Rattle.pals_bus.proofs.bus.Bus.start.Goals as goal

pub invariant_of-self-in-Err : goal.invariant_of-self-in-Err
invariant_of-self-in-Err c =
    let v = c.args.self.now in
    let old = c.self.inside.fields in
    let f = c.reserve_round.new.self in
    let h = c.read_values.new.self in
    let round = c.rounds_started-round.result in
    let why = c.missed_stop-stop.result in
    let t : BusFields = record h { nodes = c.start.new.self } in
    let g : BusFields = record t { stop = Some why; journal = c.push_reserved.new.self } in
    let going : old.stop ≡ None = grind (arith, common_steps) in
    let more = c.reserve_round.ensures in
    let made = c.in_ok-reserve_round.ensures in
    let room : HasRoundRoom f c.args.node.0 =
    record { entries = made.entries; flights = made.room; queues = made.queues } in
    let read = c.read_values.ensures in
    let ready =
    is_ready v old f h c.args.node round c.self.view_is going c.requires.node more.others more.copies more.items
    room c.rounds_started-round.ensures read.others read.values read.keeps in
    let port = c.in-Missed.port in
    let says = subst (StartEnds (node_of h.nodes c.args.node.0) c.args.reading) c.in-Missed.is c.in-Err.ensures.cause in
    (misses v h t g c.args.node c.args.reading round port why ready says
    (ap (λ (ns : List NodeValue). let u : BusFields = record h { nodes = ns } in u) c.in-Err.ensures.same)
    c.missed_stop-stop.ensures refl c.push_reserved.ensures.items c.push_reserved.ensures.capacity).keeps

pub returns-in-Err-clause-end : goal.returns-in-Err-clause-end
returns-in-Err-clause-end c =
    let v = c.args.self.now in
    let old = c.self.inside.fields in
    let f = c.reserve_round.new.self in
    let h = c.read_values.new.self in
    let round = c.rounds_started-round.result in
    let why = c.missed_stop-stop.result in
    let t : BusFields = record h { nodes = c.start.new.self } in
    let g : BusFields = record t { stop = Some why; journal = c.push_reserved.new.self } in
    let going : old.stop ≡ None = grind (arith, common_steps) in
    let more = c.reserve_round.ensures in
    let made = c.in_ok-reserve_round.ensures in
    let room : HasRoundRoom f c.args.node.0 =
    record { entries = made.entries; flights = made.room; queues = made.queues } in
    let read = c.read_values.ensures in
    let ready =
    is_ready v old f h c.args.node round c.self.view_is going c.requires.node more.others more.copies more.items
    room c.rounds_started-round.ensures read.others read.values read.keeps in
    let port = c.in-Missed.port in
    let says = subst (StartEnds (node_of h.nodes c.args.node.0) c.args.reading) c.in-Missed.is c.in-Err.ensures.cause in
    inr (misses v h t g c.args.node c.args.reading round port why ready says
    (ap (λ (ns : List NodeValue). let u : BusFields = record h { nodes = ns } in u) c.in-Err.ensures.same)
    c.missed_stop-stop.ensures refl c.push_reserved.ensures.items c.push_reserved.ensures.capacity).says

pub invariant_of-self-2 : goal.invariant_of-self-2
invariant_of-self-2 c =
    let v = c.args.self.now in
    let old = c.self.inside.fields in
    let f = c.reserve_round.new.self in
    let h = c.read_values.new.self in
    let round = c.rounds_started-round.result in
    let g : BusFields = record h { nodes = c.start.new.self; journal = c.push_reserved-2.new.self } in
    let going : old.stop ≡ None = grind (arith, common_steps) in
    let more = c.reserve_round.ensures in
    let made = c.in_ok-reserve_round.ensures in
    let room : HasRoundRoom f c.args.node.0 =
    record { entries = made.entries; flights = made.room; queues = made.queues } in
    let read = c.read_values.ensures in
    let ready =
    is_ready v old f h c.args.node round c.self.view_is going c.requires.node more.others more.copies more.items
    room c.rounds_started-round.ensures read.others read.values read.keeps in
    let turned : Turned h g c.args.node.0 (entry.Start c.args.node round c.args.reading) = record {
      same = ap (λ (ns : List NodeValue). let u : BusFields = record g { nodes = ns } in u) c.in-Ok.ensures.others;
      told = c.push_reserved-2.ensures.items;
      capacity = c.push_reserved-2.ensures.capacity;
    } in
    (starts v h g c.args.node c.args.reading round c.deref.result.now c.in-Ok.job ready c.deref.ensures.value
    c.in-Ok.ensures.ok turned).keeps

pub returns-clause-ok : goal.returns-clause-ok
returns-clause-ok c =
    let v = c.args.self.now in
    let old = c.self.inside.fields in
    let f = c.reserve_round.new.self in
    let h = c.read_values.new.self in
    let round = c.rounds_started-round.result in
    let g : BusFields = record h { nodes = c.start.new.self; journal = c.push_reserved-2.new.self } in
    let going : old.stop ≡ None = grind (arith, common_steps) in
    let more = c.reserve_round.ensures in
    let made = c.in_ok-reserve_round.ensures in
    let room : HasRoundRoom f c.args.node.0 =
    record { entries = made.entries; flights = made.room; queues = made.queues } in
    let read = c.read_values.ensures in
    let ready =
    is_ready v old f h c.args.node round c.self.view_is going c.requires.node more.others more.copies more.items
    room c.rounds_started-round.ensures read.others read.values read.keeps in
    let turned : Turned h g c.args.node.0 (entry.Start c.args.node round c.args.reading) = record {
      same = ap (λ (ns : List NodeValue). let u : BusFields = record g { nodes = ns } in u) c.in-Ok.ensures.others;
      told = c.push_reserved-2.ensures.items;
      capacity = c.push_reserved-2.ensures.capacity;
    } in
    (starts v h g c.args.node c.args.reading round c.deref.result.now c.in-Ok.job ready c.deref.ensures.value
    c.in-Ok.ensures.ok turned).says
