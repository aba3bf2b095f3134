use Rattle.std.proofs.Common.{◌≡◌, ◌∙◌, List, Some, ap, subst, arith}
use Rattle.std.specs.Prelude.{slice_index_or, slice_set, vec_capacity}
use Rattle.std.specs.Arc.{arc_value}
use Rattle.pals_model.specs.declared.design.DesignParts.{DesignParts}
use Rattle.pals_model.specs.declared.design.Link.{Link}
use Rattle.bus_machine.specs.Plans.{no_link}
use Rattle.pals_node.specs.proof.NodeAndJobValues.{NodeValue}
use Rattle.pals_bus.specs.declared.bus_fields.BusFields.{BusFields}
use Rattle.pals_bus.proofs.OldestCopyRemoval.{Takes, none_keeps, none_value, none_in_flight, none_holds}
use Rattle.pals_bus.proofs.Arrivals.{Comes, node_after, reached_within, slot_reached, arrival_is, comes_by}
use Rattle.pals_bus.proofs.Arrivals.{arrive_happens, arrive_keeps_bus}
use Rattle.pals_bus.proofs.bus_fields.BusFields.arrive.Goals as goal

pub returns-in_err-tuple-clause-keeps : goal.returns-in_err-tuple-clause-keeps
returns-in_err-tuple-clause-keeps c =
    let f = c.args.self.now in
    let t = c.take_message.new.self in
    let says = c.take_message.ensures in
    let asked : Takes f t c.args.link c.args.round c.take_message.result =
    record {
      taken = says.taken;
      copies = says.copies;
      queues = says.queues;
      room = says.room;
      others = says.others;
    } in
    none_keeps f t c.args.link c.args.round c.requires.keeps
    (subst (Takes f t c.args.link c.args.round) c.in_err-tuple.was asked)

pub returns-in_err-tuple-clause-none : goal.returns-in_err-tuple-clause-none
returns-in_err-tuple-clause-none c =
    let f = c.args.self.now in
    let t = c.take_message.new.self in
    let says = c.take_message.ensures in
    let asked : Takes f t c.args.link c.args.round c.take_message.result =
    record {
      taken = says.taken;
      copies = says.copies;
      queues = says.queues;
      room = says.room;
      others = says.others;
    } in
    let none = subst (Takes f t c.args.link c.args.round) c.in_err-tuple.was asked in
    none_holds c.from_residual.result
    (none_value f t c.args.link c.args.round none, none_in_flight f t c.args.link c.args.round none)

pub arrive-result-requires-clause-node : goal.arrive-result-requires-clause-node
arrive-result-requires-clause-node c =
    let f = c.args.self.now in
    let t = c.take_message.new.self in
    let link = c.args.link in
    let says = c.take_message.ensures in
    let asked : Takes f t link c.args.round c.take_message.result =
    record {
      taken = says.taken;
      copies = says.copies;
      queues = says.queues;
      room = says.room;
      others = says.others;
    } in
    let links =
    c.links.ensures.value ∙ ap (λ (d : DesignParts). d.links) c.deref.ensures
    ∙ ap (λ (k : BusFields). (arc_value k.design).links) says.others in
    let target =
    c.end_of-target.ensures.node ∙ ap (λ (ls : List Link). (slice_index_or ls link.0 no_link).target.0) links in
    reached_within f t link c.args.round c.take_message.result c.end_of-target.result.0 c.requires.keeps c.requires.link
    asked target

pub arrive-result-requires-clause-port : goal.arrive-result-requires-clause-port
arrive-result-requires-clause-port c =
    let f = c.args.self.now in
    let t = c.take_message.new.self in
    let link = c.args.link in
    let says = c.take_message.ensures in
    let asked : Takes f t link c.args.round c.take_message.result =
    record {
      taken = says.taken;
      copies = says.copies;
      queues = says.queues;
      room = says.room;
      others = says.others;
    } in
    let links =
    c.links.ensures.value ∙ ap (λ (d : DesignParts). d.links) c.deref.ensures
    ∙ ap (λ (k : BusFields). (arc_value k.design).links) says.others in
    let target =
    c.end_of-target.ensures.node ∙ ap (λ (ls : List Link). (slice_index_or ls link.0 no_link).target.0) links in
    let port =
    c.end_of-target.ensures.port ∙ ap (λ (ls : List Link). (slice_index_or ls link.0 no_link).in_port) links in
    slot_reached f t link c.args.round c.take_message.result c.end_of-target.result.0 c.end_of-target.result.1
    c.requires.keeps c.requires.link asked target port

pub returns-clause-keeps : goal.returns-clause-keeps
returns-clause-keeps c =
    let f = c.args.self.now in
    let t = c.take_message.new.self in
    let link = c.args.link in
    let round = c.args.round in
    let tuple = c.in_ok-tuple.tuple in
    let at = c.end_of-target.result.0 in
    let port = c.end_of-target.result.1 in
    let m = node_after t.nodes at port round tuple in
    let g : BusFields = record t
    { nodes = c.arrive-result.new.self; stop = c.early_stop-stop.result; journal = c.tell_stop.new.journal } in
    let says = c.take_message.ensures in
    let asked : Takes f t link round c.take_message.result =
    record {
      taken = says.taken;
      copies = says.copies;
      queues = says.queues;
      room = says.room;
      others = says.others;
    } in
    let takes : Takes f t link round (Some tuple) = subst (Takes f t link round) c.in_ok-tuple.was asked in
    let links =
    c.links.ensures.value ∙ ap (λ (d : DesignParts). d.links) c.deref.ensures
    ∙ ap (λ (k : BusFields). (arc_value k.design).links) says.others in
    let target_is =
    c.end_of-target.ensures.node ∙ ap (λ (ls : List Link). (slice_index_or ls link.0 no_link).target.0) links in
    let port_is =
    c.end_of-target.ensures.port ∙ ap (λ (ls : List Link). (slice_index_or ls link.0 no_link).in_port) links in
    let others : g ≡ record t { nodes = slice_set t.nodes at m; stop = g.stop; journal = g.journal } =
    ap (λ (ns : List NodeValue). let u : BusFields = record g { nodes = ns } in u) c.arrive-result.ensures.others in
    let comes : Comes f t g link round c.args.reading tuple m =
    comes_by f t g link round c.args.reading tuple at port c.arrive-result.result c.push_reserved.new.self.items
    c.requires.keeps c.requires.link takes target_is port_is
    c.arrive-result.ensures.answer others c.early_stop-stop.ensures c.push_reserved.ensures.items
    c.tell_stop.ensures.items in
    let happens =
    arrive_happens f t g link round c.args.reading tuple m c.requires.keeps c.requires.going
    c.requires.link comes in
    let capacity =
    c.tell_stop.ensures.capacity ∙ c.push_reserved.ensures.capacity
    ∙ ap (λ (k : BusFields). vec_capacity k.journal) says.others in
    let room = c.requires.room in
    arrive_keeps_bus f t g link round c.args.reading tuple m c.requires.keeps c.requires.link comes happens
    (omega (arith, capacity, room))

pub returns-clause-some : goal.returns-clause-some
returns-clause-some c =
    let f = c.args.self.now in
    let t = c.take_message.new.self in
    let link = c.args.link in
    let round = c.args.round in
    let tuple = c.in_ok-tuple.tuple in
    let at = c.end_of-target.result.0 in
    let port = c.end_of-target.result.1 in
    let m = node_after t.nodes at port round tuple in
    let g : BusFields = record t
    { nodes = c.arrive-result.new.self; stop = c.early_stop-stop.result; journal = c.tell_stop.new.journal } in
    let says = c.take_message.ensures in
    let asked : Takes f t link round c.take_message.result =
    record {
      taken = says.taken;
      copies = says.copies;
      queues = says.queues;
      room = says.room;
      others = says.others;
    } in
    let takes : Takes f t link round (Some tuple) = subst (Takes f t link round) c.in_ok-tuple.was asked in
    let links =
    c.links.ensures.value ∙ ap (λ (d : DesignParts). d.links) c.deref.ensures
    ∙ ap (λ (k : BusFields). (arc_value k.design).links) says.others in
    let target_is =
    c.end_of-target.ensures.node ∙ ap (λ (ls : List Link). (slice_index_or ls link.0 no_link).target.0) links in
    let port_is =
    c.end_of-target.ensures.port ∙ ap (λ (ls : List Link). (slice_index_or ls link.0 no_link).in_port) links in
    let others : g ≡ record t { nodes = slice_set t.nodes at m; stop = g.stop; journal = g.journal } =
    ap (λ (ns : List NodeValue). let u : BusFields = record g { nodes = ns } in u) c.arrive-result.ensures.others in
    let comes : Comes f t g link round c.args.reading tuple m =
    comes_by f t g link round c.args.reading tuple at port c.arrive-result.result c.push_reserved.new.self.items
    c.requires.keeps c.requires.link takes target_is port_is
    c.arrive-result.ensures.answer others c.early_stop-stop.ensures c.push_reserved.ensures.items
    c.tell_stop.ensures.items in
    let happens =
    arrive_happens f t g link round c.args.reading tuple m c.requires.keeps c.requires.going
    c.requires.link comes in (
      happens,
      arrival_is f t link round (Some tuple) at port c.arrive-result.result c.requires.keeps c.requires.link
          takes target_is port_is c.arrive-result.ensures.answer,
    )
