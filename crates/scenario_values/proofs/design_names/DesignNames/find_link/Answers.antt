use Rattle.std.proofs.Common.{arith, bytes_eq}
use Rattle.std.proofs.lemmas.Grind.{common_steps}
use Rattle.pals_model.specs.declared.design.Link.{Link}
use Rattle.pals_model.specs.ComponentAndLinkNames.{link_name}
use Rattle.scenario_values.proofs.NameSearch.{within}
use Rattle.scenario_values.proofs.design_names.DesignNames.find_link.Goals as goal

pub overflow_cast-result : goal.overflow_cast-result
overflow_cast-result c =
    let below =
    within (λ (link : Link). bytes_eq c.args.name.now (link_name c.args.self.now link)) c.args.self.now.links
    c.in-Some.number.now
    (grind (arith, common_steps, c.self.invariant.links_are c.args.name.now)) in
    grind (arith, below, c.self.view_is, c.self.invariant.rules.links.count)

pub returns-in-Some-clause-within : goal.returns-in-Some-clause-within
returns-in-Some-clause-within c =
    within (λ (link : Link). bytes_eq c.args.name.now (link_name c.args.self.now link)) c.args.self.now.links
    c.in-Some.number.now
    (grind (arith, common_steps, c.self.invariant.links_are c.args.name.now))
