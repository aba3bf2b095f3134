use Rattle.std.proofs.Common.{◌≡◌, ◌∙◌, refl, sym, ap, subst, length, arith}
use Rattle.std.specs.Arc.{arc_value}
use Rattle.std.proofs.lemmas.Grind.{common_steps}
use Rattle.std.proofs.lemmas.List.{length-map}
use Rattle.bus_machine.specs.Nodes.{vectors_of}
use Rattle.pals_node.specs.proof.JobMemories.{HasMemory}
use Rattle.pals_node.specs.proof.RoundStarts.{empty_part}
use Rattle.pals_node.specs.proof.NodeInvariants.{Keeps, AreTuples, PhaseKeeps, IsPartRoom, value_of}
use Rattle.pals_node.proofs.RoundStarts.{absent_are, vectors_are, part_room, starts_value}
use Rattle.pals_node.proofs.node_fields_and_events.NodeFields.start.Goals as goal

pub returns-clause-ok : goal.returns-clause-ok
returns-clause-ok c =
    let f = c.args.self.now in
    let plan = (arc_value f.plan).plan in
    let room = c.in_ok-room.room in
    let is = c.in_ok-room.ensures.room in
    ap value_of c.begin.ensures
    ∙ starts_value f c.args.env.now room.vectors room.outs c.reserve.new.self.items
    is.vectors_are is.outs_are c.reserve.ensures.items

pub returns-clause-keeps : goal.returns-clause-keeps
returns-clause-keeps c =
    let f = c.args.self.now in
    let plan = (arc_value f.plan).plan in
    let keeps = c.requires.keeps in
    let rules = keeps.program.plan in
    let rests = subst (PhaseKeeps plan f) c.requires.waits keeps.phase_keeps in
    let is = c.in_ok-room.ensures.room in
    let vectors : c.in_ok-room.room.vectors ≡ vectors_of plan c.args.env.now f.slots = is.vectors_are in
    subst Keeps (sym c.begin.ensures) (record {
      program = keeps.program;
      rounds = keeps.rounds;
      count = omega (arith, rests.1);
      frame = keeps.frame;
      slots = length-map f.slots _ ∙ keeps.slots;
      phase_keeps = record {
        within = rules.rate.0;
        round = record {
          begun = omega arith;
          vectors =
              subst (AreTuples plan.rate (length plan.behaviour.ins)) (sym vectors)
              (vectors_are plan c.args.env.now f.slots rules keeps.slots);
          outs =
              subst (AreTuples (length plan.behaviour.outs) plan.rate) (sym is.outs_are)
              (absent_are (length plan.behaviour.outs) plan.rate);
        };
        part = subst (IsPartRoom plan) (sym is.part_is) (part_room plan (empty_part plan) refl refl);
        place = grind (arith, common_steps);
      };
      messages_keep =
          subst (AreTuples (length plan.out_links) plan.rate) (sym is.messages_are)
          (absent_are (length plan.out_links) plan.rate);
      room = keeps.room;
      row = keeps.row;
      spare = subst (HasMemory (arc_value f.plan).code) (sym c.take-spare.ensures.after) tt;
    })
