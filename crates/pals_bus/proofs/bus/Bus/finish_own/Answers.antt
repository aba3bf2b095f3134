use Rattle.std.proofs.Common.{List, ap, arith}
use Rattle.std.proofs.lemmas.Grind.{common_steps}
use Rattle.pals_runs.specs.declared.journal.JournalEntry.TheVariants as entry
use Rattle.pals_node.specs.proof.NodeAndJobValues.{NodeValue}
use Rattle.pals_bus.specs.declared.bus_fields.BusFields.{BusFields}
use Rattle.pals_bus.proofs.ChangedNodeValues.{Turned}
use Rattle.pals_bus.proofs.NodeEventCalls.{Stands, finishes_with}
use Rattle.pals_bus.proofs.bus.Bus.finish_own.Goals as goal

pub invariant_of-self-2 : goal.invariant_of-self-2
invariant_of-self-2 c =
    let v = c.args.self.now in
    let f = c.self.inside.fields in
    let round = c.round_in_hand-round.result in
    let g : BusFields = record f { nodes = c.finish_own.new.self; journal = c.push_reserved.new.self } in
    let stands : Stands v f c.args.node.0 =
    record {
      shows = c.self.view_is;
      keeps = c.self.invariant;
      going = grind (arith, common_steps);
      within = c.requires.node;
    } in
    let turned : Turned f g c.args.node.0 (entry.Finish c.args.node round) = record {
      same = ap (λ (ns : List NodeValue). let u : BusFields = record g { nodes = ns } in u) c.in-Ok.ensures.others;
      told = c.push_reserved.ensures.items;
      capacity = c.push_reserved.ensures.capacity;
    } in
    (finishes_with v f g c.args.node c.args.done c.in-Ok.how round stands c.in-Ok.ensures.ok
    c.round_in_hand-round.ensures turned).keeps

pub returns-clause-ok : goal.returns-clause-ok
returns-clause-ok c =
    let v = c.args.self.now in
    let f = c.self.inside.fields in
    let round = c.round_in_hand-round.result in
    let g : BusFields = record f { nodes = c.finish_own.new.self; journal = c.push_reserved.new.self } in
    let stands : Stands v f c.args.node.0 =
    record {
      shows = c.self.view_is;
      keeps = c.self.invariant;
      going = grind (arith, common_steps);
      within = c.requires.node;
    } in
    let turned : Turned f g c.args.node.0 (entry.Finish c.args.node round) = record {
      same = ap (λ (ns : List NodeValue). let u : BusFields = record g { nodes = ns } in u) c.in-Ok.ensures.others;
      told = c.push_reserved.ensures.items;
      capacity = c.push_reserved.ensures.capacity;
    } in
    (finishes_with v f g c.args.node c.args.done c.in-Ok.how round stands c.in-Ok.ensures.ok
    c.round_in_hand-round.ensures turned).says
