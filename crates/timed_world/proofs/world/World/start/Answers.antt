use Rattle.std.proofs.Common.{ap, sym, ◌∙◌, subst}
use Rattle.pals_runs.specs.declared.events_and_faults.Event.TheVariants as event
use Rattle.pals_bus.specs.BusValues.{BusValue}
use Rattle.run_laws.proofs.FaultlessEventConditions.{starts_in_time}
use Rattle.timed_world.specs.proof.WorldValuesAndMoves.{WorldValue, KeepsWorld, Moves, world_of}
use Rattle.timed_world.proofs.EventEffects.{HasNoFault, reads, begun, moves_keep}
use Rattle.timed_world.proofs.RefusalsForMemoryAlone.{start_only}
use Rattle.timed_world.proofs.world.World.start.Goals as goal

pub refused_start-requires : goal.refused_start-requires
refused_start-requires c =
    let f = c.self.inside in
    let v : WorldValue = record {
      bus = f.bus;
      time = f.time;
      readings = f.readings;
      since = f.since;
      ready = f.ready;
      sent_at = f.sent_at;
    } in
    let e = event.Start c.args.node in
    let fine = subst (λ (x : WorldValue). HasNoFault x e) (sym c.self.view_is) c.requires.fine in
    let within = (starts_in_time v.bus.run (world_of v) c.args.node fine).within in
    let at = c.index-reading.result.now in
    let clock = reads v c.args.node at c.self.invariant within c.index-reading.ensures in
    let end =
    start_only v c.args.node at c.start.new.self c.in-Err.end c.self.invariant fine clock c.in-Err.ensures.end in
    end.0

pub invariant_of-self : goal.invariant_of-self
invariant_of-self c =
    let f = c.self.inside in
    let v : WorldValue = record {
      bus = f.bus;
      time = f.time;
      readings = f.readings;
      since = f.since;
      ready = f.ready;
      sent_at = f.sent_at;
    } in
    let e = event.Start c.args.node in
    let fine = subst (λ (x : WorldValue). HasNoFault x e) (sym c.self.view_is) c.requires.fine in
    let within = (starts_in_time v.bus.run (world_of v) c.args.node fine).within in
    let at = c.index-reading.result.now in
    let clock = reads v c.args.node at c.self.invariant within c.index-reading.ensures in
    let end =
    start_only v c.args.node at c.start.new.self c.in-Err.end c.self.invariant fine clock c.in-Err.ensures.end in
    subst (λ (b : BusValue). KeepsWorld (record v { bus = b })) (sym end.1) c.self.invariant

pub returns-in-Err-clause-same : goal.returns-in-Err-clause-same
returns-in-Err-clause-same c =
    let f = c.self.inside in
    let v : WorldValue = record {
      bus = f.bus;
      time = f.time;
      readings = f.readings;
      since = f.since;
      ready = f.ready;
      sent_at = f.sent_at;
    } in
    let e = event.Start c.args.node in
    let fine = subst (λ (x : WorldValue). HasNoFault x e) (sym c.self.view_is) c.requires.fine in
    let within = (starts_in_time v.bus.run (world_of v) c.args.node fine).within in
    let at = c.index-reading.result.now in
    let clock = reads v c.args.node at c.self.invariant within c.index-reading.ensures in
    let end =
    start_only v c.args.node at c.start.new.self c.in-Err.end c.self.invariant fine clock c.in-Err.ensures.end in
    ap (λ (b : BusValue). record v { bus = b }) end.1 ∙ c.self.view_is

pub invariant_of-self-2 : goal.invariant_of-self-2
invariant_of-self-2 c =
    let f = c.self.inside in
    let v : WorldValue = record {
      bus = f.bus;
      time = f.time;
      readings = f.readings;
      since = f.since;
      ready = f.ready;
      sent_at = f.sent_at;
    } in
    let e = event.Start c.args.node in
    let fine = subst (λ (x : WorldValue). HasNoFault x e) (sym c.self.view_is) c.requires.fine in
    let within = (starts_in_time v.bus.run (world_of v) c.args.node fine).within in
    let at = c.index-reading.result.now in
    let clock = reads v c.args.node at c.self.invariant within c.index-reading.ensures in
    let moves =
    begun v c.args.node at c.start.new.self c.set.new.self c.self.invariant fine clock
    c.in_default.ensures.ok.happens c.set.ensures in
    moves_keep v e _ c.self.invariant fine moves

pub returns-clause-ok : goal.returns-clause-ok
returns-clause-ok c =
    let f = c.self.inside in
    let v : WorldValue = record {
      bus = f.bus;
      time = f.time;
      readings = f.readings;
      since = f.since;
      ready = f.ready;
      sent_at = f.sent_at;
    } in
    let e = event.Start c.args.node in
    let fine = subst (λ (x : WorldValue). HasNoFault x e) (sym c.self.view_is) c.requires.fine in
    let within = (starts_in_time v.bus.run (world_of v) c.args.node fine).within in
    let at = c.index-reading.result.now in
    let clock = reads v c.args.node at c.self.invariant within c.index-reading.ensures in
    let moves =
    begun v c.args.node at c.start.new.self c.set.new.self c.self.invariant fine clock
    c.in_default.ensures.ok.happens c.set.ensures in
    subst (λ (x : WorldValue). Moves x e (record v { bus = c.start.new.self; since = c.set.new.self }))
    c.self.view_is moves
