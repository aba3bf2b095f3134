use Rattle.std.proofs.Common.{sym, subst}
use Rattle.pals_runs.specs.declared.events_and_faults.Event.TheVariants as event
use Rattle.timed_world.specs.proof.WorldValuesAndMoves.{WorldValue}
use Rattle.timed_world.proofs.EventEffects.{HasNoFault, arrived, moves_keep}
use Rattle.timed_world.proofs.RefusalsForMemoryAlone.{arrival_only}
use Rattle.timed_world.proofs.world.World.arrive.Goals as goal

pub refused_arrival-requires : goal.refused_arrival-requires
refused_arrival-requires c =
    let f = c.self.inside in
    let v : WorldValue = record {
      bus = f.bus;
      time = f.time;
      readings = f.readings;
      since = f.since;
      ready = f.ready;
      sent_at = f.sent_at;
    } in
    let e = event.Arrive c.args.link c.args.round in
    let fine = subst (λ (x : WorldValue). HasNoFault x e) (sym c.self.view_is) c.requires.fine in
    arrival_only v c.args.link c.args.round c.in-Err.end c.self.invariant fine c.in-Err.ensures.cause

pub invariant_of-self-2 : goal.invariant_of-self-2
invariant_of-self-2 c =
    let f = c.self.inside in
    let v : WorldValue = record {
      bus = f.bus;
      time = f.time;
      readings = f.readings;
      since = f.since;
      ready = f.ready;
      sent_at = f.sent_at;
    } in
    let e = event.Arrive c.args.link c.args.round in
    let fine = subst (λ (x : WorldValue). HasNoFault x e) (sym c.self.view_is) c.requires.fine in
    moves_keep v e _ c.self.invariant fine
    (arrived v c.args.link c.args.round c.deliver.new.self c.in_default.ensures.ok)
