-- The agreement with the composition is preserved when one node, one flight or the stop is replaced.
use Rattle.std.proofs.Common.{◌≡◌, ◌≢◌, inl, inr, ℕ, ◌<◌, ◌≤◌, List, [], length, slice_get, Option, Some, All, refl}
use Rattle.std.proofs.Common.{sym, ap, ◌∙◌, subst, arith}
use Rattle.std.specs.Prelude.{slice_index_or, slice_set}
use Rattle.std.proofs.lemmas.Bool.{cases_eq, cases_lt}
use Rattle.std.proofs.lemmas.Grind.{get_or-set_at}
use Rattle.std.proofs.lemmas.List.{length-set, get_or-set_other, get_or_past}
use Rattle.std.proofs.lemmas.List.Elements.{All-weaker}
use Rattle.std.proofs.lemmas.Option.{slice_get_within, slice_get-get_or}
use Rattle.pals_model.specs.declared.design.Component.{Component}
use Rattle.pals_model.specs.declared.design.Link.{Link}
use Rattle.pals_model.specs.declared.flight_copy.FlightCopy.{FlightCopy}
use Rattle.pals_runs.specs.declared.journal.Stop.{Stop}
use Rattle.bus_machine.specs.Plans.{component_at, no_component, link_at}
use Rattle.bus_machine.specs.Nodes.{NodeState, sent_rounds}
use Rattle.bus_machine.specs.NodeEvents.{slot_at}
use Rattle.bus_machine.specs.BusStates.{BusState, node_at, no_node, flight_at, with_node, with_flight}
use Rattle.bus_machine.specs.RunParameters.{Run}
use Rattle.bus_machine.specs.MissedMessages.{rounds_sent_on}
use Rattle.bus_machine.specs.Agreement.{NodeAgrees, SlotAgrees, IsCopy, Agrees}
use Rattle.bus_machine.proofs.InputAgreement.{SlotsAgree}

-- ---- a stop
pub with_stop_agrees : (run : Run) (s : BusState) (why : Option Stop) → Agrees run s
    → Agrees run (record s { stop = why })
with_stop_agrees run s why agree = record {
  node_count = agree.node_count;
  flight_count = agree.flight_count;
  nodes = agree.nodes;
  links =
      λ number link is. record {
        slot = (agree.links number link is).slot;
        flight = (agree.links number link is).flight;
      };
}

-- ---- flights
more_sent : (run : Run) (number few many : ℕ) (flight : List FlightCopy) → few ≤ many
    → All (IsCopy run number few) flight → All (IsCopy run number many) flight
more_sent run number few many flight below all =
    All-weaker (IsCopy run number few) (IsCopy run number many)
    (λ copy is. record { round = (let before = is.round in omega arith); tuple = is.tuple }) flight all

pub with_flights_agrees : (run : Run) (s : BusState) (flights : List (List FlightCopy)) → Agrees run s
    → length flights ≡ length run.design.links
    → ((number : ℕ) (link : Link) → slice_get run.design.links number ≡ Some link
    → All (IsCopy run number (rounds_sent_on run s number)) (slice_index_or flights number []))
    → Agrees run (record s { flights = flights })
with_flights_agrees run s flights agree count copies = record {
  node_count = agree.node_count;
  flight_count = count;
  nodes = agree.nodes;
  links = λ number link is. record { slot = (agree.links number link is).slot; flight = copies number link is };
}

pub with_flight_agrees : (run : Run) (s : BusState) (number : ℕ) (flight : List FlightCopy) → Agrees run s
    → All (IsCopy run number (rounds_sent_on run s number)) flight → Agrees run (with_flight s number flight)
with_flight_agrees run s number flight agree all =
    with_flights_agrees run s (slice_set s.flights number flight) agree
    (length-set s.flights number flight ∙ agree.flight_count)
    (λ k link is. elim (cases_eq k number) [
      | inl same ↦
          let within : k < length run.design.links = slice_get_within run.design.links k link is in
          let count = agree.flight_count in
          let here : number < length s.flights = omega arith in
          subst (λ f. All (IsCopy run k (rounds_sent_on run s k)) f)
          (sym (get_or-set_at s.flights number k flight [] same here))
          (subst (λ m. All (IsCopy run m (rounds_sent_on run s m)) flight) (sym same) all)
      | inr other ↦
          subst (λ f. All (IsCopy run k (rounds_sent_on run s k)) f)
          (sym (get_or-set_other s.flights number k flight [] other)) (agree.links k link is).flight
    ])

-- ---- nodes
pub node_set : (s : BusState) (node : ℕ) (n : NodeState) → node < length s.nodes → node_at (with_node s node n) node ≡ n
node_set s node n within = get_or-set_at s.nodes node node n no_node refl within

pub node_stays : (s : BusState) (node k : ℕ) (n : NodeState) → k ≢ node → node_at (with_node s node n) k ≡ node_at s k
node_stays s node k n other = get_or-set_other s.nodes node k n no_node other

-- a node that is not done is a component's
pub is_component : (run : Run) (s : BusState) (node : ℕ) → Agrees run s → node_at s node ≢ no_node
    → slice_get run.design.components node ≡ Some (component_at run.design node)
is_component run s node agree there =
    let count = agree.node_count in
    elim (cases_lt node (length s.nodes)) [
      | inl within ↦ slice_get-get_or run.design.components node no_component (omega arith)
      | inr past ↦ absurd (there (get_or_past s.nodes node no_node past))
    ]

more_rounds_sent : (run : Run) (s : BusState) (node : ℕ) (n : NodeState) (k : ℕ) → node < length s.nodes
    → sent_rounds (node_at s node) ≤ sent_rounds n
    → sent_rounds (node_at s k) ≤ sent_rounds (node_at (with_node s node n) k)
more_rounds_sent run s node n k within more = elim (cases_eq k node) [
  | inl same ↦
      let new : sent_rounds (node_at (with_node s node n) k) ≡ sent_rounds n =
      ap (λ (m : NodeState). sent_rounds m) (get_or-set_at s.nodes node k n no_node same within) in
      let old : sent_rounds (node_at s k) ≡ sent_rounds (node_at s node) = ap (λ m. sent_rounds (node_at s m)) same in
      omega arith
  | inr other ↦
      let stays : sent_rounds (node_at (with_node s node n) k) ≡ sent_rounds (node_at s k) =
      ap (λ (m : NodeState). sent_rounds m) (node_stays s node k n other) in
      omega arith
]

pub with_node_agrees : (run : Run) (s : BusState) (node : ℕ) (c : Component) (n : NodeState) → Agrees run s
    → slice_get run.design.components node ≡ Some c → NodeAgrees run node c n
    → sent_rounds (node_at s node) ≤ sent_rounds n → SlotsAgree run node n
    → Agrees run (with_node s node n)
with_node_agrees run s node c n agree is_c here more slots =
    let count = agree.node_count in
    let below : node < length run.design.components = slice_get_within run.design.components node c is_c in
    let within : node < length s.nodes = omega arith in
    record {
      node_count = length-set s.nodes node n ∙ count;
      flight_count = agree.flight_count;
      nodes = λ k d is_d. elim (cases_eq k node) [
        | inl same ↦
            let one : d ≡ c = let both : Some d ≡ Some c = sym is_d ∙ ap (slice_get run.design.components) same
            ∙ is_c in cc in
            subst (λ m. NodeAgrees run k d m) (sym (get_or-set_at s.nodes node k n no_node same within))
            (subst (λ j. NodeAgrees run j d n) (sym same) (subst (λ e. NodeAgrees run node e n) (sym one) here))
        | inr other ↦ subst (λ m. NodeAgrees run k d m) (sym (node_stays s node k n other)) (agree.nodes k d is_d)
      ];
      links = λ number link is. record {
        slot = elim (cases_eq link.target.0 node) [
          | inl same ↦ subst (λ (m : NodeState). SlotAgrees run number m.count (slot_at m link.in_port))
              (sym (get_or-set_at s.nodes node link.target.0 n no_node same within)) (slots number link is same)
          | inr other ↦ subst (λ (m : NodeState). SlotAgrees run number m.count (slot_at m link.in_port))
              (sym (node_stays s node link.target.0 n other)) (agree.links number link is).slot
        ];
        flight =
            more_sent run number (rounds_sent_on run s number) (rounds_sent_on run (with_node s node n) number)
            (flight_at s number) (more_rounds_sent run s node n (link_at run.design number).source.0 within more)
            (agree.links number link is).flight;
      };
    }

-- the slots of a node, in a state that agrees
pub slots_of : (run : Run) (s : BusState) (node : ℕ) → Agrees run s → SlotsAgree run node (node_at s node)
slots_of run s node agree number link is same =
    subst (λ j. SlotAgrees run number (node_at s j).count (slot_at (node_at s j) link.in_port)) same
    (agree.links number link is).slot
