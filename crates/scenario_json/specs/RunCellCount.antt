-- The number of output values of a run: for components, links and root out ports, by rates and variables.
use Rattle.std.specs.Prelude.{ℕ, ◌+◌, ◌*◌, length, sum_by}
use Rattle.pals_model.specs.declared.design.Component.{Component}
use Rattle.pals_model.specs.declared.design.Link.{Link}
use Rattle.pals_model.specs.declared.design.Tap.{Tap}
use Rattle.pals_model.specs.declared.design.DesignParts.{DesignParts}
use Rattle.pals_model.specs.PortKindsAndRates.{rate_of}

abbrev pub component_cells : Component → ℕ
component_cells c = 1 + 2 * c.rate + length c.behaviour.vars

-- the output values of one round: for each component 1, twice its rate and its variables; for each link and each root
-- out port the rate of its source
abbrev pub round_cells : DesignParts → ℕ
round_cells design =
    sum_by component_cells design.components + sum_by (λ (link : Link). rate_of design link.source.0) design.links
    + sum_by (λ (tap : Tap). rate_of design tap.source.0) design.taps

abbrev pub cells_of : DesignParts → ℕ → ℕ
cells_of design rounds = rounds * round_cells design
