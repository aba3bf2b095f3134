use Rattle.std.proofs.Common.{◌≡◌, true, false, ap, ap₂, ◌∙◌, sym, subst}
use Rattle.pals_runs.specs.declared.events_and_faults.Event.TheVariants as event
use Rattle.bus_machine.specs.declared.plan.Plan.{Plan}
use Rattle.bus_machine.specs.Plans.{plan_of}
use Rattle.bus_machine.specs.NodeEvents.{running_step}
use Rattle.bus_machine.specs.BusStates.{node_at}
use Rattle.run_laws.specs.Worlds.{is_last_sent}
use Rattle.timed_world.specs.declared.node_standing.NodeStanding.{NodeStanding}
use Rattle.timed_world.specs.proof.WorldValuesAndMoves.{WorldValue}
use Rattle.timed_world.proofs.EventEffects.{HasNoFault, ends_sent, moves_on, stays_put, ended, moves_keep}
use Rattle.timed_world.proofs.world.World.finish.Goals as goal

pub invariant_of-self : goal.invariant_of-self
invariant_of-self c =
    let f = c.self.inside in
    let v : WorldValue = record {
      bus = f.bus;
      time = f.time;
      readings = f.readings;
      since = f.since;
      ready = f.ready;
      sent_at = f.sent_at;
    } in
    let e = event.Finish c.args.node in
    let fine = subst (λ (x : WorldValue). HasNoFault x e) (sym c.self.view_is) c.requires.fine in
    let node = c.args.node.0 in
    let plan = c.plan.ensures.value ∙ ap (λ (x : WorldValue). plan_of x.bus.run.design node) (sym c.self.view_is) in
    let phase =
    ap (λ (s : NodeStanding). s.phase) c.standing.ensures.value
    ∙ ap (λ (x : WorldValue). (node_at x.bus.state node).phase) (sym c.self.view_is) in
    let last : ends_sent v c.args.node ≡ true =
    sym (ap₂ (λ (p : Plan) q. is_last_sent p.sent_steps (running_step q)) plan phase) ∙ sym c.is_last_sent-last.ensures
    ∙ c.if-last.true in
    let ready =
    moves_on (ends_sent v c.args.node) f.ready c.set-then-last.new.self c.args.node.0 f.time last
    c.set-then-last.ensures in
    moves_keep v e _ c.self.invariant fine
    (ended v c.args.node c.finish_here.new.self c.set.new.self c.set-then-last.new.self c.in_default.ensures.ok
    c.set.ensures ready)

pub invariant_of-self-else-last : goal.invariant_of-self-else-last
invariant_of-self-else-last c =
    let f = c.self.inside in
    let v : WorldValue = record {
      bus = f.bus;
      time = f.time;
      readings = f.readings;
      since = f.since;
      ready = f.ready;
      sent_at = f.sent_at;
    } in
    let e = event.Finish c.args.node in
    let fine = subst (λ (x : WorldValue). HasNoFault x e) (sym c.self.view_is) c.requires.fine in
    let node = c.args.node.0 in
    let plan = c.plan.ensures.value ∙ ap (λ (x : WorldValue). plan_of x.bus.run.design node) (sym c.self.view_is) in
    let phase =
    ap (λ (s : NodeStanding). s.phase) c.standing.ensures.value
    ∙ ap (λ (x : WorldValue). (node_at x.bus.state node).phase) (sym c.self.view_is) in
    let last : ends_sent v c.args.node ≡ false =
    sym (ap₂ (λ (p : Plan) q. is_last_sent p.sent_steps (running_step q)) plan phase) ∙ sym c.is_last_sent-last.ensures
    ∙ c.if-last.false in
    let ready = stays_put (ends_sent v c.args.node) f.ready c.args.node.0 f.time last in
    moves_keep v e _ c.self.invariant fine
    (ended v c.args.node c.finish_here.new.self c.set.new.self f.ready c.in_default.ensures.ok c.set.ensures ready)
