use Rattle.std.proofs.Common.{arith, bytes_eq}
use Rattle.std.proofs.lemmas.Grind.{common_steps}
use Rattle.pals_model.specs.declared.design.Component.{Component}
use Rattle.scenario_values.proofs.NameSearch.{within}
use Rattle.scenario_values.proofs.design_names.DesignNames.find_node.Goals as goal

pub overflow_cast-result : goal.overflow_cast-result
overflow_cast-result c =
    let below =
    within (λ (d : Component). bytes_eq c.args.path.now d.path) c.args.self.now.components c.in-Some.number.now
    (grind (arith, common_steps, c.self.invariant.nodes_are c.args.path.now)) in
    grind (arith, below, c.self.view_is, c.self.invariant.rules.components.count)

pub returns-in-Some-clause-within : goal.returns-in-Some-clause-within
returns-in-Some-clause-within c =
    within (λ (d : Component). bytes_eq c.args.path.now d.path) c.args.self.now.components c.in-Some.number.now
    (grind (arith, common_steps, c.self.invariant.nodes_are c.args.path.now))
