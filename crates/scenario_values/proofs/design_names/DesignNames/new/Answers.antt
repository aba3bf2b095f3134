use Rattle.std.proofs.Common.{map, ap, ◌∙◌, arith, bytes_eq}
use Rattle.std.specs.List.{position_from}
use Rattle.std.proofs.lemmas.Grind.{common_steps}
use Rattle.pals_model.specs.declared.design.Component.{Component}
use Rattle.pals_model.specs.declared.design.Feed.{Feed}
use Rattle.pals_model.specs.ComponentAndLinkNames.{link_name}
use Rattle.scenario_values.proofs.NameSearch.{position_map, position_zero}
use Rattle.scenario_values.proofs.design_names.DesignNames.new.Goals as goal

pub invariant_of-result : goal.invariant_of-result
invariant_of-result c =
    let d = c.args.design.now in
    record {
      nodes_are =
          λ q. c.in_ok-nodes.ensures q
          ∙ ap (position_from (bytes_eq q) 0)
          (c.in_ok-paths.ensures ∙ ap (map (λ (k : Component). k.path)) c.components.ensures.value)
          ∙ position_map (λ (k : Component). k.path) (bytes_eq q) d.components;
      links_are =
          λ q. c.in_ok-links.ensures q ∙ ap (position_from (bytes_eq q) 0) (grind (arith, common_steps))
          ∙ position_map (link_name d) (bytes_eq q) d.links;
      feeds_are =
          λ q. c.in_ok-feeds.ensures q ∙ ap (position_from (bytes_eq q) 0) (grind (arith, common_steps))
          ∙ position_zero (bytes_eq q) (map (λ (f : Feed). f.name) d.feeds);
      roots_are = grind (arith, common_steps);
      rules = c.parts-parts.ensures.rules;
    }
