use Rattle.std.proofs.Common.{◌<◌, length, ◌∙◌, sym, subst, arith}
use Rattle.std.proofs.lemmas.List.{get_or_default}
use Rattle.bus_machine.specs.Plans.{plan_of}
use Rattle.timed_world.specs.declared.node_standing.NodeStanding.{NodeStanding}
use Rattle.timed_world.specs.proof.NodeStandings.{IsSound}
use Rattle.timed_world.specs.proof.WorldValuesAndMoves.{WorldValue}
use Rattle.timed_world.proofs.NodeStandings.{sound_again}
use Rattle.timed_world.proofs.world.World.standing.Goals as goal

pub returns-clause-sound : goal.returns-clause-sound
returns-clause-sound c =
    let f = c.self.inside in
    let v : WorldValue = record {
      bus = f.bus;
      time = f.time;
      readings = f.readings;
      since = f.since;
      ready = f.ready;
      sent_at = f.sent_at;
    } in
    let node = c.args.node.0 in
    let s : NodeStanding = record {
      count = c.count.result;
      phase = c.phase.result;
      sent = c.sent.result;
      reading = c.index.result.now;
      since = c.index-2.result.now;
      ready = c.index-3.result.now;
    } in
    let within : node < length f.bus.run.design.components =
    subst (λ (x : WorldValue). node < length x.bus.run.design.components) (sym c.self.view_is) c.requires in
    let many = c.self.invariant.keeps.moments.since in
    let at : node < length f.since = omega arith in
    let since = c.index-2.ensures ∙ get_or_default f.since node c.index-2.result.now 0 at in
    let sound = sound_again v node s c.self.invariant within c.count.ensures c.phase.ensures since in
    subst (λ (x : WorldValue). IsSound (plan_of x.bus.run.design node) s) c.self.view_is sound
