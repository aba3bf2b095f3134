use Rattle.std.proofs.Common.{◌≡◌, ◌∙◌, refl, sym, ap, subst, length, arith}
use Rattle.std.specs.Arc.{arc_value}
use Rattle.bus_machine.specs.declared.plan.Plan.{Plan}
use Rattle.pals_node.specs.proof.NodeAndJobValues.{Program}
use Rattle.pals_node.specs.proof.NodeInvariants.{AreTuples, PhaseKeeps}
use Rattle.pals_node.proofs.StepEnds.{outs_keep, after_keeps}
use Rattle.pals_node.proofs.node_fields_and_events.NodeFields.end_step.Goals as goal

pub returns-then-step-deref-clause-keeps : goal.returns-then-step-deref-clause-keeps
returns-then-step-deref-clause-keeps c =
    let plan = (arc_value c.args.self.now.plan).plan in
    let made = c.requires.ready.made in
    let outs =
    subst (AreTuples (length plan.behaviour.outs) plan.rate) (sym c.write_places.ensures)
    (outs_keep c.args.step (length plan.behaviour.outs) plan.rate _ c.args.self.now.outs made.round.outs) in
    let same : c.behind-self.inside.plan ≡ plan =
    ap (λ (p : Program). p.plan) (c.behind-self.view_is ∙ c.deref.ensures) in
    let rate = ap (λ (p : Plan). p.rate) same in (
      record {
        within = omega (arith, c.if-step-deref.true, rate);
        round = record { begun = made.round.begun; vectors = made.round.vectors; outs = outs };
        part = made.part;
        place = made.place;
      },
      omega arith,
    )

pub leave_part-requires-clause-outs : goal.leave_part-requires-clause-outs
leave_part-requires-clause-outs c =
    let plan = (arc_value c.args.self.now.plan).plan in
    let made = c.requires.ready.made in
    let same : c.behind-self-2.inside.plan ≡ plan =
    ap (λ (p : Program). p.plan) (c.behind-self-2.view_is ∙ c.deref-2.ensures) in
    subst (λ (p : Plan). AreTuples (length p.behaviour.outs) p.rate c.as_slice-2.result.now) (sym same)
    (subst (AreTuples (length plan.behaviour.outs) plan.rate)
    (sym (c.as_slice-2.ensures.value ∙ c.write_places.ensures))
    (outs_keep c.args.step (length plan.behaviour.outs) plan.rate _ c.args.self.now.outs made.round.outs))

pub returns-clause-keeps : goal.returns-clause-keeps
returns-clause-keeps c =
    let plan = (arc_value c.args.self.now.plan).plan in
    let made = c.requires.ready.made in
    let outs =
    subst (AreTuples (length plan.behaviour.outs) plan.rate) (sym c.write_places.ensures)
    (outs_keep c.args.step (length plan.behaviour.outs) plan.rate _ c.args.self.now.outs made.round.outs) in
    subst (PhaseKeeps plan _) (sym c.after_round-self.ensures)
    (after_keeps plan _ c.args.self.now.sent refl c.requires.ready.count
    (record { begun = made.round.begun; vectors = made.round.vectors; outs = outs }))
