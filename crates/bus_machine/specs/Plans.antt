-- The configuration that a design gives to one of its nodes: its component, its inputs and its out links.
use Rattle.std.specs.Prelude.{ℕ, nat_eq, List, [], map, filter, Option, Some, None, slice_get, slice_index_or}
use Rattle.pals_base.specs.declared.behaviour.BehaviourParts.{BehaviourParts}
use Rattle.pals_base.specs.PeriodBoundAndReleases.{step_period, sent_steps, release_offset}
use Rattle.pals_model.specs.declared.design.Component.{Component}
use Rattle.pals_model.specs.declared.design.Link.{Link}
use Rattle.pals_model.specs.declared.design.Feed.{Feed}
use Rattle.pals_model.specs.declared.design.Tap.{Tap}
use Rattle.pals_model.specs.declared.design.DesignParts.{DesignParts}
use Rattle.pals_model.specs.declared.port_sources.PortSource.{PortSource}
use Rattle.pals_model.specs.ComponentInputs.{sources_of}
use Rattle.pals_model.specs.PortKindsAndRates.{rate_of}
use Rattle.pals_model.specs.Composition.{taps_of}
use Rattle.bus_machine.specs.declared.plan.Input.{Input}
use Rattle.bus_machine.specs.declared.plan.Plan.{Plan}
use Rattle.pals_model.specs.declared.port_sources.PortSource.TheVariants as source
use Rattle.bus_machine.specs.declared.plan.Input.TheVariants as input

-- ---- components
abbrev pub no_behaviour : BehaviourParts
no_behaviour = record { ins = []; outs = []; vars = []; states = []; initial = 0; transitions = [] }

abbrev pub no_component : Component
no_component = record { path = []; rate = 1; behaviour = no_behaviour }

abbrev pub component_at : DesignParts → ℕ → Component
component_at design node = slice_index_or design.components node no_component

-- ---- in ports
abbrev pub input_from_feed : ℕ → Option Feed → Input
input_from_feed root None = input.Nothing
input_from_feed root (Some feed) = input.Root root feed.adaptor

abbrev pub input_from_link : DesignParts → Option Link → Input
input_from_link design None = input.Nothing
input_from_link design (Some link) = input.Link (rate_of design link.source.0) link.adaptor

-- what an in port with this source brings
abbrev pub input_of : DesignParts → PortSource → Input
input_of design source.Nothing = input.Nothing
input_of design (source.Feed feed root) = input_from_feed root (slice_get design.feeds feed)
input_of design (source.Link link) = input_from_link design (slice_get design.links link)

-- ---- the plan
-- the links from a node, in their order
abbrev pub out_links_of : DesignParts → ℕ → List Link
out_links_of design node = filter (λ link. nat_eq link.source.0 node) design.links

abbrev pub plan_for : DesignParts → ℕ → Component → Plan
plan_for design node c = record {
  node = record { 0 = node };
  behaviour = c.behaviour;
  rate = c.rate;
  inputs = map (input_of design) (sources_of design node c);
  out_links = map (λ (link : Link). link.out_port) (out_links_of design node);
  taps = map (λ (tap : Tap). tap.out_port) (taps_of design node);
  period = design.period;
  step_period = step_period design.period c.rate;
  sent_steps = sent_steps design.gamma design.period c.rate;
  release_offset = release_offset design.gamma design.period c.rate;
}

-- the configuration that a design gives to the node of a component
abbrev pub plan_of : DesignParts → ℕ → Plan
plan_of design node = plan_for design node (component_at design node)

abbrev pub no_link : Link
no_link = record { source = record { 0 = 0 }; out_port = 0; target = record { 0 = 0 }; in_port = 0; adaptor = None }

abbrev pub link_at : DesignParts → ℕ → Link
link_at design link = slice_index_or design.links link no_link
