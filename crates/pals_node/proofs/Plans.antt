-- For `NodePlan::new`: the plan of a node of a design keeps the plan's invariant.
use Rattle.std.proofs.Common.{◌≡◌, ◌∙◌, ℕ, ◌+◌, ◌-◌, ◌*◌, ◌/◌, ◌<◌, ◌≤◌, nat_eq, length, All, slice_get, slice_index_or}
use Rattle.std.proofs.Common.{ap, subst, arith}
use Rattle.std.specs.Prelude.{max}
use Rattle.std.proofs.Math.Nat.{div-le_self, mul-le-mul_right, mul-div-le, max-le, le-max_left, min-le_left, le-min}
use Rattle.std.proofs.lemmas.Bool.{eqb-true}
use Rattle.std.proofs.lemmas.List.{length-map}
use Rattle.std.proofs.lemmas.List.Elements.{All-map, All-filter, filter_passes}
use Rattle.std.proofs.lemmas.Option.{slice_get-get_or}
use Rattle.pals_base.specs.declared.period_bound_and_releases.Gamma.{Gamma}
use Rattle.pals_base.specs.PeriodBoundAndReleases.{backoff, step_period, sent_steps, release_offset, least_period}
use Rattle.pals_model.specs.declared.design.Link.{Link}
use Rattle.pals_model.specs.declared.design.Tap.{Tap}
use Rattle.pals_model.specs.declared.design.DesignParts.{DesignParts}
use Rattle.pals_model.specs.ComponentInputs.{sources_of}
use Rattle.pals_model.specs.PortKindsAndRates.{outs_in}
use Rattle.pals_model.specs.Composition.{taps_of}
use Rattle.pals_model.specs.DesignRules.{IsDesign, IsComponent, IsLink, IsTap, greatest_rate}
use Rattle.pals_model.proofs.FirstMatches.{at_element}
use Rattle.bus_machine.specs.Plans.{component_at, no_component, plan_of, input_of, out_links_of}
use Rattle.bus_machine.proofs.InputAgreement.{length_sources}
use Rattle.pals_node.specs.proof.NodeInvariants.{IsPlan}

-- ---- times
offset_fits : (g : Gamma) (t k : ℕ) → g.mu_max + 2 * g.eps + max (backoff g) g.alpha_max ≤ t → release_offset g t k ≤ t
offset_fits g t k bound =
    let sent = sent_steps g t k in
    let few : sent ≤ k = min-le_left k (1 + (t - g.mu_max - 2 * g.eps - g.alpha_max) / step_period t k) in
    let last : sent - 1 ≤ k = omega arith in
    let steps : (sent - 1) * (t / k) ≤ k * (t / k) = mul-le-mul_right (t / k) last in
    let round : k * (t / k) ≤ t = mul-div-le t k in
    max-le (omega arith) (omega arith)

some_sent : (g : Gamma) (t k : ℕ) → 1 ≤ k → 1 ≤ sent_steps g t k
some_sent g t k some = le-min some (omega arith)

-- the release offset of a design's component is at most its period
pub design_offset_fits : (design : DesignParts) (k : ℕ) → IsDesign design
    → release_offset design.gamma design.period k ≤ design.period
design_offset_fits design k rules =
    let g = design.gamma in
    let bound : g.mu_max + 2 * g.eps + max (backoff g) g.alpha_max ≤ least_period g (greatest_rate design.components) =
    le-max_left (g.mu_max + 2 * g.eps + max (backoff g) g.alpha_max)
    (greatest_rate design.components * g.alpha_max) in
    let all = rules.bound in
    offset_fits g design.period k (omega arith)

-- ---- ports
link_ports : (design : DesignParts) (node : ℕ) → IsDesign design → node < length design.components
    → All (λ port. port < length (component_at design node).behaviour.outs) (plan_of design node).out_links
link_ports design node rules within =
    let c = component_at design node in
    let is_c = slice_get-get_or design.components node no_component within in
    All-map (λ port. port < length c.behaviour.outs) (λ (link : Link). link.out_port) (out_links_of design node)
    (λ k d below.
    let link = slice_index_or (out_links_of design node) k d in
    let rule : IsLink design link =
    All-filter (λ (l : Link). nat_eq l.source.0 node) (IsLink design) design.links rules.links.each k d below in
    let source : link.source.0 ≡ node =
    eqb-true link.source.0 node (filter_passes (λ (l : Link). nat_eq l.source.0 node) design.links k d below) in
    subst (λ o. link.out_port < outs_in o) (ap (slice_get design.components) source ∙ is_c) rule.source.port_is)

tap_ports : (design : DesignParts) (node : ℕ) → IsDesign design → node < length design.components
    → All (λ port. port < length (component_at design node).behaviour.outs) (plan_of design node).taps
tap_ports design node rules within =
    let c = component_at design node in
    let is_c = slice_get-get_or design.components node no_component within in
    All-map (λ port. port < length c.behaviour.outs) (λ (tap : Tap). tap.out_port) (taps_of design node)
    (λ k d below.
    let tap = slice_index_or (taps_of design node) k d in
    let rule : IsTap design tap =
    All-filter (λ (t : Tap). nat_eq t.source.0 node) (IsTap design) design.taps rules.taps.each k d below in
    let source : tap.source.0 ≡ node =
    eqb-true tap.source.0 node (filter_passes (λ (t : Tap). nat_eq t.source.0 node) design.taps k d below) in
    subst (λ o. tap.out_port < outs_in o) (ap (slice_get design.components) source ∙ is_c) rule.source.port_is)

-- ---- the plan
pub plan_keeps : (design : DesignParts) (node : ℕ) → IsDesign design → node < length design.components
    → IsPlan (plan_of design node)
plan_keeps design node rules within =
    let c = component_at design node in
    let is_c = slice_get-get_or design.components node no_component within in
    let rule : IsComponent design.period c =
    at_element (IsComponent design.period) design.components node c rules.components.each is_c in
    let offset = design_offset_fits design c.rate rules in
    let period = rules.period.1 in
    let steps : design.period / c.rate ≤ design.period = div-le_self design.period c.rate in
    let sources = length-map (sources_of design node c) (input_of design) ∙ length_sources design node c in
    let ports = rule.small.ports in
    record {
      rate = rule.rate;
      sent = some_sent design.gamma design.period c.rate rule.rate.0;
      period = period;
      step_period = omega arith;
      offset = omega arith;
      behaviour = rule.behaviour;
      inputs = sources;
      few = omega arith;
      out_links = link_ports design node rules within;
      taps = tap_ports design node rules within;
    }
