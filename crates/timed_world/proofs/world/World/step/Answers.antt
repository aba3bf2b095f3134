use Rattle.std.proofs.Common.{sym, subst}
use Rattle.pals_runs.specs.declared.events_and_faults.Event.TheVariants as event
use Rattle.run_laws.proofs.FaultlessEventConditions.{steps_in_time}
use Rattle.timed_world.specs.proof.WorldValuesAndMoves.{WorldValue, world_of}
use Rattle.timed_world.proofs.EventEffects.{HasNoFault, reads, stepped, moves_keep}
use Rattle.timed_world.proofs.RefusalsForMemoryAlone.{step_only}
use Rattle.timed_world.proofs.world.World.step.Goals as goal

pub refused_step-requires : goal.refused_step-requires
refused_step-requires c =
    let f = c.self.inside in
    let v : WorldValue = record {
      bus = f.bus;
      time = f.time;
      readings = f.readings;
      since = f.since;
      ready = f.ready;
      sent_at = f.sent_at;
    } in
    let fine = subst (λ (x : WorldValue). HasNoFault x (event.Step c.args.node)) (sym c.self.view_is) c.requires.fine in
    let within = (steps_in_time v.bus.run (world_of v) c.args.node fine).within in
    let at = c.index-reading.result.now in
    let clock = reads v c.args.node at c.self.invariant within c.index-reading.ensures in
    step_only v c.args.node at c.in-Err.end c.self.invariant fine clock c.in-Err.ensures.cause

pub invariant_of-self-2 : goal.invariant_of-self-2
invariant_of-self-2 c =
    let f = c.self.inside in
    let v : WorldValue = record {
      bus = f.bus;
      time = f.time;
      readings = f.readings;
      since = f.since;
      ready = f.ready;
      sent_at = f.sent_at;
    } in
    let e = event.Step c.args.node in
    let fine = subst (λ (x : WorldValue). HasNoFault x e) (sym c.self.view_is) c.requires.fine in
    let within = (steps_in_time v.bus.run (world_of v) c.args.node fine).within in
    let clock = reads v c.args.node c.index-reading.result.now c.self.invariant within c.index-reading.ensures in
    moves_keep v e _ c.self.invariant fine
    (stepped v c.args.node c.index-reading.result.now c.step.new.self c.set.new.self clock
    c.in_default.ensures.ok.happens c.set.ensures)
