-- For `cause_of`: why a message is missed when a node starts.
use Rattle.std.proofs.Common.{◌≡◌, ◌∙◌, inl, inr, ℕ, zero, suc, ◌<◌, nat_lt, Bool, List, [], ◌∷◌, length, refl, ap, ap₂}
use Rattle.std.proofs.Common.{arith}
use Rattle.std.specs.Prelude.{slice_get, slice_index_or, if◌then◌else◌}
use Rattle.std.specs.Arc.{arc_value}
use Rattle.std.proofs.lemmas.Bool.{cases_lt}
use Rattle.std.proofs.lemmas.List.{get_or_past}
use Rattle.pals_model.specs.declared.design.DesignParts.{DesignParts}
use Rattle.pals_model.specs.declared.design.Link.{Link}
use Rattle.pals_model.specs.DesignRules.{IsDesign}
use Rattle.pals_runs.specs.declared.journal.Cause.{Cause}
use Rattle.pals_runs.specs.declared.journal.Cause.TheVariants.{NotSent, InTransit, Lost}
use Rattle.link_buffers.specs.proof.Flights.{FlightState}
use Rattle.bus_machine.specs.LinkEvents.{is_in_flight}
use Rattle.bus_machine.specs.BusStates.{node_at}
use Rattle.bus_machine.specs.Plans.{no_link}
use Rattle.bus_machine.specs.MissedMessages.{cause_of, rounds_sent_on}
use Rattle.bus_machine.specs.Nodes.{sent_rounds}
use Rattle.pals_node.specs.proof.NodeAndJobValues.{NodeValue}
use Rattle.pals_bus.specs.declared.bus_fields.BusFields.{BusFields}
use Rattle.pals_bus.specs.proof.BusInvariant.{IsBusInvariant, copies_in, copies_in_option, run_of, state_of}
use Rattle.pals_bus.proofs.NodeChanges.{node_here}

-- the source of a link, or of none, is a node
pub source_within : (design : DesignParts) (link n : ℕ) → IsDesign design → 0 < n → n ≡ length design.components
    → (slice_index_or design.links link no_link).source.0 < n
source_within design link n is some many = elim (cases_lt link (length design.links)) [
  | inl within ↦ let there = (is.links.each link no_link within).source.node_is in omega (arith, there, many)
  | inr past ↦ let none : (slice_index_or design.links link no_link).source.0 ≡ 0 =
      ap (λ (l : Link). l.source.0) (get_or_past design.links link no_link past) in omega (arith, none, some)
]

-- the copies on a link
copies_got : (flights : List FlightState) (link : ℕ)
    → copies_in_option (slice_get flights link) ≡ slice_index_or (copies_in flights) link []
copies_got [] link = refl
copies_got (flight ∷ flights) zero = refl
copies_got (flight ∷ flights) (suc link) = copies_got flights link

abbrev cause_by : Bool → Bool → Cause
cause_by sent flying = if sent then (if flying then InTransit else Lost) else NotSent

pub cause_told : (f : BusFields) (link round source sent : ℕ) (n : NodeValue) (flying : Bool) → IsBusInvariant f
    → 0 < length f.nodes → source ≡ (slice_index_or (arc_value f.design).links link no_link).source.0
    → n ≡ slice_index_or f.nodes source n → sent ≡ sent_rounds n.state
    → flying ≡ is_in_flight round (copies_in_option (slice_get f.flights link))
    → (if nat_lt round sent then (if flying then InTransit else Lost) else NotSent)
    ≡ cause_of (run_of f) (state_of f) link round
cause_told f link round source sent n flying keeps some is_source is is_sent flies =
    let there = source_within (arc_value f.design) link (length f.nodes) keeps.design some keeps.nodes.count in
    let within : source < length f.nodes = omega (arith, there, is_source) in
    let state : n.state ≡ node_at (state_of f) source =
    ap (λ (m : NodeValue). m.state) (node_here f source n keeps within is) in
    let rounds : sent ≡ rounds_sent_on (run_of f) (state_of f) link = is_sent ∙ ap sent_rounds state
    ∙ ap (λ k. sent_rounds (node_at (state_of f) k)) is_source in
    ap₂ cause_by (ap (nat_lt round) rounds) (flies ∙ ap (is_in_flight round) (copies_got f.flights link))
