use Rattle.std.proofs.Common.{sym, subst}
use Rattle.pals_runs.specs.declared.events_and_faults.Event.TheVariants as event
use Rattle.timed_world.specs.proof.WorldValuesAndMoves.{WorldValue}
use Rattle.timed_world.proofs.EventEffects.{HasNoFault, passed, moves_keep}
use Rattle.timed_world.proofs.world.World.pass.Goals as goal

pub invariant_of-self : goal.invariant_of-self
invariant_of-self c =
    let f = c.self.inside in
    let v : WorldValue = record {
      bus = f.bus;
      time = f.time;
      readings = f.readings;
      since = f.since;
      ready = f.ready;
      sent_at = f.sent_at;
    } in
    let e = event.Pass c.args.time c.args.readings.now in
    let fine = subst (λ (x : WorldValue). HasNoFault x e) (sym c.self.view_is) c.requires.fine in
    moves_keep v e _ c.self.invariant fine
    (passed v c.args.time c.args.readings.now c.copy_from_slice.new.self c.copy_from_slice.ensures)
