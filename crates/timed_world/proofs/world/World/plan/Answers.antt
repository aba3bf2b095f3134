use Rattle.std.proofs.Common.{◌<◌, length, sym, subst}
use Rattle.pals_node.specs.proof.NodeInvariants.{IsPlan}
use Rattle.pals_node.proofs.Plans.{plan_keeps}
use Rattle.timed_world.specs.proof.WorldValuesAndMoves.{WorldValue}
use Rattle.timed_world.proofs.world.World.plan.Goals as goal

pub returns-clause-keeps : goal.returns-clause-keeps
returns-clause-keeps c =
    let within =
    subst (λ (v : WorldValue). c.args.node.0 < length v.bus.run.design.components) (sym c.self.view_is)
    c.requires in
    subst IsPlan (sym c.plan.ensures)
    (plan_keeps c.self.inside.bus.run.design c.args.node.0 c.self.invariant.rules.design within)
