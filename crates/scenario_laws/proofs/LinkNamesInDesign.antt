-- A name in a scenario that is taken for a link has the number of a link in the design.
use Rattle.std.proofs.Common.{◌≡◌, ℕ, ◌<◌, List, length, Ok, bytes_eq}
use Rattle.scenario_values.proofs.NameSearch.{within}
use Rattle.pals_model.specs.declared.design.DesignParts.{DesignParts}
use Rattle.pals_model.specs.declared.design.Link.{Link}
use Rattle.pals_model.specs.ComponentAndLinkNames.{link_named, link_name}
use Rattle.scenario_values.specs.declared.fault.ScenarioFault.TheVariants.{Unknown}
use Rattle.scenario_values.proofs.SuccessfulResults.{ok_given}
use Rattle.scenario_values.specs.NameLookup.{link_at}

pub link_below : (place : List ℕ) (design : DesignParts) (name : List ℕ) (link : ℕ)
    → link_at place design name ≡ Ok link → link < length design.links
unfolding link_at
link_below place design name link e =
    within (λ (l : Link). bytes_eq name (link_name design l)) design.links link
    (ok_given (Unknown place) (link_named design name) link e)
