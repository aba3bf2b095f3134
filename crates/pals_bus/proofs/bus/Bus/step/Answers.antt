use Rattle.std.proofs.Common.{◌≡◌, ◌∙◌, ◌∷◌, [], ◌++◌, List, None, ap, ap₂, arith}
use Rattle.std.proofs.lemmas.Grind.{common_steps}
use Rattle.pals_runs.specs.declared.journal.JournalEntry.TheVariants as entry
use Rattle.pals_node.specs.proof.NodeAndJobValues.{NodeValue}
use Rattle.pals_node.specs.proof.Answers.{StepEnds}
use Rattle.pals_bus.specs.declared.bus_fields.BusFields.{BusFields}
use Rattle.pals_bus.proofs.ChangedNodeValues.{Turned}
use Rattle.pals_bus.proofs.NodeEventCalls.{reserved, refuses, steps}
use Rattle.pals_bus.proofs.bus.Bus.step.Goals as goal

pub returns-in-Err-clause-cause : goal.returns-in-Err-clause-cause
returns-in-Err-clause-cause c =
    let v = c.args.self.now in
    let old = c.self.inside.fields in
    let f = c.reserve_entries.new.self in
    let room = c.reserve_entries.ensures in
    let going : old.stop ≡ None = grind (arith, common_steps) in
    let stands =
    reserved v old f c.args.node.0 c.self.view_is going c.requires.node room.others room.items room.keeps in
    refuses v f c.args.node.0 (λ (n : NodeValue). StepEnds n c.args.reading c.in-Err.end) stands c.in-Err.ensures.cause

pub invariant_of-self-2 : goal.invariant_of-self-2
invariant_of-self-2 c =
    let v = c.args.self.now in
    let old = c.self.inside.fields in
    let f = c.reserve_entries.new.self in
    let job = c.in-Ok.job in
    let g : BusFields = record f { nodes = c.step.new.self; journal = c.push_reserved.new.self } in
    let room = c.reserve_entries.ensures in
    let going : old.stop ≡ None = grind (arith, common_steps) in
    let stands =
    reserved v old f c.args.node.0 c.self.view_is going c.requires.node room.others room.items room.keeps in
    let turned : Turned f g c.args.node.0 (entry.Step c.args.node job.work.round job.work.step c.args.reading) =
    record {
      same = ap (λ (ns : List NodeValue). let u : BusFields = record g { nodes = ns } in u) c.in-Ok.ensures.others;
      told =
          c.push_reserved.ensures.items
          ∙ ap₂ (λ r k. f.journal.items ++ entry.Step c.args.node r k c.args.reading ∷ []) c.round.ensures
          c.step-2.ensures;
      capacity = c.push_reserved.ensures.capacity;
    } in
    (steps v f g c.args.node c.args.reading job stands c.in-Ok.ensures.ok turned
    c.in_ok-reserve_entries.ensures.room).keeps

pub returns-clause-ok : goal.returns-clause-ok
returns-clause-ok c =
    let v = c.args.self.now in
    let old = c.self.inside.fields in
    let f = c.reserve_entries.new.self in
    let job = c.in-Ok.job in
    let g : BusFields = record f { nodes = c.step.new.self; journal = c.push_reserved.new.self } in
    let room = c.reserve_entries.ensures in
    let going : old.stop ≡ None = grind (arith, common_steps) in
    let stands =
    reserved v old f c.args.node.0 c.self.view_is going c.requires.node room.others room.items room.keeps in
    let turned : Turned f g c.args.node.0 (entry.Step c.args.node job.work.round job.work.step c.args.reading) =
    record {
      same = ap (λ (ns : List NodeValue). let u : BusFields = record g { nodes = ns } in u) c.in-Ok.ensures.others;
      told =
          c.push_reserved.ensures.items
          ∙ ap₂ (λ r k. f.journal.items ++ entry.Step c.args.node r k c.args.reading ∷ []) c.round.ensures
          c.step-2.ensures;
      capacity = c.push_reserved.ensures.capacity;
    } in
    (steps v f g c.args.node c.args.reading job stands c.in-Ok.ensures.ok turned
    c.in_ok-reserve_entries.ensures.room).says
