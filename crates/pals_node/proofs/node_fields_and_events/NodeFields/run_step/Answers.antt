use Rattle.std.proofs.Common.{◌≡◌, ◌∙◌, [], sym, ap, subst, length, slice_index_or, arith}
use Rattle.std.specs.Arc.{arc_value}
use Rattle.std.specs.Vec.{with_items}
use Rattle.step_code.specs.declared.instr.CodeParts.{CodeParts}
use Rattle.step_code.specs.proof.CodeRuns.{exec, Leaves}
use Rattle.step_vm.specs.proof.RoomCapacity.{IsRoomOf}
use Rattle.pals_node.specs.proof.NodeAndJobValues.{Program}
use Rattle.pals_node.proofs.StepEnds.{runs_open, makes, keeps_on}
use Rattle.std.proofs.lemmas.List.{with_items_is}
use Rattle.std.proofs.lemmas.Option.{slice_get-get_or, get_or_from_slice_get}
use Rattle.pals_node.proofs.node_fields_and_events.NodeFields.run_step.Goals as goal

pub end_step-requires : goal.end_step-requires
end_step-requires c =
    let f = c.args.self.now in
    let p = arc_value f.plan in
    let keeps = c.requires.keeps in
    let round = runs_open f c.args.step keeps c.requires.runs in
    let same : c.behind-self.inside.code ≡ p.code =
    ap (λ (q : Program). q.code) (c.behind-self.view_is ∙ c.deref.ensures) in
    let count = round.round.vectors.count_is in
    let below = round.within in
    let input =
    c.as_slice-inputs.ensures.value ∙ c.index.ensures
    ∙ sym (get_or_from_slice_get f.vectors c.args.step (slice_index_or f.vectors c.args.step c.index.result.now) []
    (slice_get-get_or f.vectors c.args.step c.index.result.now (omega arith))) in
    let left =
    subst (λ (code : CodeParts). exec code f.frame (slice_index_or f.vectors c.args.step [])
    ≡ Leaves (record { frame = c.run.new.frame; outs = c.run.new.outs })) same
    (subst (λ inputs. exec c.behind-self.inside.code f.frame inputs
    ≡ Leaves (record { frame = c.run.new.frame; outs = c.run.new.outs })) input c.run.ensures.step) in
    let made = makes f c.args.step c.run.new.frame c.run.new.outs keeps c.requires.runs left in
    let width : length c.run.new.outs ≡ f.row.len = made.count_is ∙ sym keeps.program.means.outs ∙ sym keeps.row
    ∙ sym f.row.ok.0 in
    record {
      ready = record {
        plan = keeps.program.plan;
        count = keeps.count;
        made =
            record {
              within = round.within;
              round = record { begun = round.round.begun; vectors = round.round.vectors; outs = round.round.outs };
              part = round.part;
              place = round.place;
            };
        frame = made.shape;
        row = ap length (with_items_is f.row c.run.new.outs width) ∙ made.count_is;
      };
    }

pub returns-clause-keeps : goal.returns-clause-keeps
returns-clause-keeps c =
    let f = c.args.self.now in
    let p = arc_value f.plan in
    let keeps = c.requires.keeps in
    let round = runs_open f c.args.step keeps c.requires.runs in
    let same : c.behind-self.inside.code ≡ p.code =
    ap (λ (q : Program). q.code) (c.behind-self.view_is ∙ c.deref.ensures) in
    let count = round.round.vectors.count_is in
    let below = round.within in
    let input =
    c.as_slice-inputs.ensures.value ∙ c.index.ensures
    ∙ sym (get_or_from_slice_get f.vectors c.args.step (slice_index_or f.vectors c.args.step c.index.result.now) []
    (slice_get-get_or f.vectors c.args.step c.index.result.now (omega arith))) in
    let left =
    subst (λ (code : CodeParts). exec code f.frame (slice_index_or f.vectors c.args.step [])
    ≡ Leaves (record { frame = c.run.new.frame; outs = c.run.new.outs })) same
    (subst (λ inputs. exec c.behind-self.inside.code f.frame inputs
    ≡ Leaves (record { frame = c.run.new.frame; outs = c.run.new.outs })) input c.run.ensures.step) in
    let made = makes f c.args.step c.run.new.frame c.run.new.outs keeps c.requires.runs left in
    let width : length c.run.new.outs ≡ f.row.len = made.count_is ∙ sym keeps.program.means.outs ∙ sym keeps.row
    ∙ sym f.row.ok.0 in
    keeps_on (record f { frame = c.run.new.frame; room = c.run.new.room; row = with_items f.row c.run.new.outs })
    c.end_step.new.self
    (record {
      program = keeps.program;
      rounds = keeps.rounds;
      count = keeps.count;
      frame = made.shape;
      slots = keeps.slots;
      messages_keep = keeps.messages_keep;
      room = subst (IsRoomOf p.code) (sym c.run.ensures.room) keeps.room;
      row = ap length (with_items_is f.row c.run.new.outs width) ∙ made.count_is ∙ sym keeps.program.means.outs;
      spare = keeps.spare;
    })
    c.end_step.ensures.others c.end_step.ensures.keeps
