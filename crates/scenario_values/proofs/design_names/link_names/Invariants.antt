use Rattle.std.proofs.Common.{◌≡◌, map, take, string_bytes}
use Rattle.pals_model.specs.ComponentAndLinkNames.{link_name}
use Rattle.scenario_values.proofs.design_names.link_names.Given as goal

abbrev pub invariant-loop-link : goal.invariant-loop-link
invariant-loop-link l = map string_bytes l.names.items ≡ map (link_name l.design) (take l.link-index l.links)
