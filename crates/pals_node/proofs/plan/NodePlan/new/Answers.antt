use Rattle.std.proofs.Common.{sym, subst}
use Rattle.step_code.specs.proof.CodeMatchesBehaviour.{Means}
use Rattle.bus_machine.specs.declared.plan.Plan.{Plan}
use Rattle.pals_node.specs.proof.NodeInvariants.{IsPlan}
use Rattle.pals_node.proofs.Plans.{plan_keeps}
use Rattle.pals_node.proofs.plan.NodePlan.new.Goals as goal

pub invariant_of-result : goal.invariant_of-result
invariant_of-result c = record {
  plan =
      subst IsPlan (sym c.in_ok-plan.ensures)
      (plan_keeps c.args.design.now c.args.node.0 c.components.ensures.rules c.requires.node);
  means = subst (λ (p : Plan). Means c.args.code p.behaviour) (sym c.in_ok-plan.ensures) c.requires.means;
}
