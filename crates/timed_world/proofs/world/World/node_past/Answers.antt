use Rattle.std.proofs.Common.{◌≡◌, ap, ◌∙◌}
use Rattle.pals_runs.specs.declared.events_and_faults.EventSubject.TheVariants as subject
use Rattle.pals_model.specs.declared.design.DesignParts.{DesignParts}
use Rattle.run_laws.specs.EventFaults.{past}
use Rattle.timed_world.specs.proof.WorldValuesAndMoves.{WorldValue, world_of}
use Rattle.timed_world.proofs.NodeStandings.{last_is}
use Rattle.timed_world.proofs.world.World.node_past.Goals as goal

pub returns : goal.returns
returns c =
    let v = c.args.self.now in
    let gamma : c.gamma-gamma.result ≡ v.bus.run.design.gamma =
    c.gamma-gamma.ensures.value ∙ ap (λ (d : DesignParts). d.gamma) c.design.ensures
    ∙ ap (λ (x : WorldValue). x.bus.run.design.gamma) c.self.view_is in
    c.past.ensures
    ∙ ap (past c.args.time (subject.Node c.args.node))
    (c.last_time-last.ensures
    ∙ last_is v.bus.run (world_of v) c.args.node.0 c.plan.result.now c.standing.result c.gamma-gamma.result
    c.plan.ensures.value c.standing.ensures.value gamma)
