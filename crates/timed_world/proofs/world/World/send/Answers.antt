use Rattle.std.proofs.Common.{◌≡◌, true, false, ap, ◌∙◌, sym, subst}
use Rattle.pals_runs.specs.declared.events_and_faults.Event.TheVariants as event
use Rattle.bus_machine.specs.BusStates.{node_at}
use Rattle.run_laws.specs.Worlds.{is_held}
use Rattle.run_laws.proofs.FaultlessEventConditions.{sends_in_time}
use Rattle.timed_world.specs.declared.node_standing.NodeStanding.{NodeStanding}
use Rattle.timed_world.specs.proof.WorldValuesAndMoves.{WorldValue, world_of}
use Rattle.timed_world.proofs.EventEffects.{HasNoFault, reads, moves_on, stays_put, sent, moves_keep}
use Rattle.timed_world.proofs.RefusalsForMemoryAlone.{send_reads}
use Rattle.timed_world.proofs.world.World.send.Goals as goal

pub send-requires-clause-reading : goal.send-requires-clause-reading
send-requires-clause-reading c =
    let f = c.self.inside in
    let v : WorldValue = record {
      bus = f.bus;
      time = f.time;
      readings = f.readings;
      since = f.since;
      ready = f.ready;
      sent_at = f.sent_at;
    } in
    let e = event.Send c.args.node in
    let fine = subst (λ (x : WorldValue). HasNoFault x e) (sym c.self.view_is) c.requires.fine in
    let within = (sends_in_time v.bus.run (world_of v) c.args.node fine).within in
    let at = c.index-reading.result.now in
    let clock = reads v c.args.node at c.self.invariant within c.index-reading.ensures in
    send_reads v c.args.node at c.self.invariant fine clock

pub invariant_of-self-then-held : goal.invariant_of-self-then-held
invariant_of-self-then-held c =
    let f = c.self.inside in
    let v : WorldValue = record {
      bus = f.bus;
      time = f.time;
      readings = f.readings;
      since = f.since;
      ready = f.ready;
      sent_at = f.sent_at;
    } in
    let e = event.Send c.args.node in
    let fine = subst (λ (x : WorldValue). HasNoFault x e) (sym c.self.view_is) c.requires.fine in
    let within = (sends_in_time v.bus.run (world_of v) c.args.node fine).within in
    let at = c.index-reading.result.now in
    let clock = reads v c.args.node at c.self.invariant within c.index-reading.ensures in
    let holds = is_held (node_at f.bus.state c.args.node.0).phase in
    let phase =
    ap (λ (s : NodeStanding). s.phase) c.standing.ensures.value
    ∙ ap (λ (x : WorldValue). (node_at x.bus.state c.args.node.0).phase) (sym c.self.view_is) in
    let held : holds ≡ true = sym (ap is_held phase) ∙ sym c.is_held-held.ensures ∙ c.if-held.true in
    let since = moves_on holds f.since c.set.new.self c.args.node.0 f.time held c.set.ensures in
    moves_keep v e _ c.self.invariant fine
    (sent v c.args.node at c.send.new.self c.set.new.self c.add_moment.new.moments clock c.in_default.ensures.ok.happens
    since c.in_ok-add_moment.ensures.ok)

pub invariant_of-self-else-held : goal.invariant_of-self-else-held
invariant_of-self-else-held c =
    let f = c.self.inside in
    let v : WorldValue = record {
      bus = f.bus;
      time = f.time;
      readings = f.readings;
      since = f.since;
      ready = f.ready;
      sent_at = f.sent_at;
    } in
    let e = event.Send c.args.node in
    let fine = subst (λ (x : WorldValue). HasNoFault x e) (sym c.self.view_is) c.requires.fine in
    let within = (sends_in_time v.bus.run (world_of v) c.args.node fine).within in
    let at = c.index-reading.result.now in
    let clock = reads v c.args.node at c.self.invariant within c.index-reading.ensures in
    let holds = is_held (node_at f.bus.state c.args.node.0).phase in
    let phase =
    ap (λ (s : NodeStanding). s.phase) c.standing.ensures.value
    ∙ ap (λ (x : WorldValue). (node_at x.bus.state c.args.node.0).phase) (sym c.self.view_is) in
    let held : holds ≡ false = sym (ap is_held phase) ∙ sym c.is_held-held.ensures ∙ c.if-held.false in
    let since = stays_put holds f.since c.args.node.0 f.time held in
    moves_keep v e _ c.self.invariant fine
    (sent v c.args.node at c.send.new.self f.since c.add_moment.new.moments clock c.in_default.ensures.ok.happens since
    c.in_ok-add_moment.ensures.ok)
