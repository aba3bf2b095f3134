-- A world within the bounds can continue: if no last allowed time is reached, a nanosecond can pass.
use Rattle.std.proofs.Common.{◌≡◌, ◌⊎◌, inl, inr, ℕ, zero, suc, ◌<◌, ◌≤◌, true, List, [], ◌∷◌, length, map, slice_get}
use Rattle.std.proofs.Common.{Option, Some, None, refl, sym, ap, ◌∙◌, subst, arith}
use Rattle.std.specs.Prelude.{max, Bool, is_some, if◌then◌else◌, find}
use Rattle.std.specs.Option.{option_map}
use Rattle.std.proofs.lemmas.Bool.{cases_lt, cases_Bool, eq-eqb}
use Rattle.std.proofs.lemmas.Option.{same_Some, slice_get-get_or, slice_get-map, slice_get_within}
use Rattle.std.proofs.lemmas.List.{length-map}
use Rattle.pals_model.specs.declared.flight_copy.FlightCopy.{FlightCopy}
use Rattle.pals_model.specs.Flights.{is_of}
use Rattle.pals_runs.specs.declared.events_and_faults.Event.{Event}
use Rattle.bus_machine.specs.LinkEvents.{is_in_flight}
use Rattle.bus_machine.specs.BusStates.{flight_at}
use Rattle.bus_machine.specs.RunParameters.{Run}
use Rattle.bus_machine.specs.proof.AgreementLaws.{IsRunOf}
use Rattle.run_laws.specs.Worlds.{World, reading_at, opening_world, world_after}
use Rattle.run_laws.specs.Deadlines.{node_deadline, message_deadline}
use Rattle.run_laws.specs.EventLists.{IsWithin, world_left}
use Rattle.run_laws.specs.proof.WorldInvariant.{KeepsDeadline, KeepsTime}
use Rattle.run_laws.proofs.BoundedSearch.{first_or_none}
use Rattle.run_laws.proofs.KeptWorldInvariant.{event_keeps_time}
use Rattle.run_laws.proofs.OpeningWorlds.{opening_keeps_time}
use Rattle.world_progress.specs.proof.WorldProgress.{CanGoOn, time_passes}
use Rattle.world_progress.proofs.DueEvents.{HasCome, node_event, message_event}
use Rattle.world_progress.proofs.FaultlessPasses.{GoOnNear, pass_can_occur}

-- ---- whether a last allowed time is reached
come_or_not : (time : ℕ) (o : Option ℕ) → HasCome time o ⊎ KeepsDeadline (suc time) o
come_or_not time None = inr tt
come_or_not time (Some last) = elim (cases_lt time last) [
  | inl below ↦ inr (omega arith)
  | inr come ↦ inl (record { last = last; is = refl; come = come })
]

-- each copy in flight belongs to a round that is in flight
abbrev found_by : ℕ → FlightCopy → List FlightCopy → Bool → Bool
found_by round x xs is = is_some (if is then Some x else find (is_of round) xs)

found_in : (round : ℕ) (xs : List FlightCopy) (k : ℕ) (copy : FlightCopy) → slice_get xs k ≡ Some copy
    → copy.round ≡ round
    → is_in_flight round xs ≡ true
found_in round [] k copy is same = absurd (cc)
found_in round (x ∷ xs) zero copy is same =
    let first : x ≡ copy = same_Some _ _ is in
    ap (found_by round x xs) (eq-eqb x.round round (ap (λ (c : FlightCopy). c.round) first ∙ same))
found_in round (x ∷ xs) (suc k) copy is same = elim (cases_Bool (is_of round x)) [
  | inl here ↦ ap (found_by round x xs) here
  | inr later ↦ ap (found_by round x xs) later ∙ found_in round xs k copy is same
]

module _ (run : Run) (w : World) (rules : IsRunOf run) (keeps : KeepsTime run w) where
  -- ---- the readings a nanosecond later
  abbrev later_reading : ℕ → ℕ
  later_reading reading = max reading (suc w.time)

  abbrev later_readings : List ℕ
  later_readings = map later_reading w.readings

  reading_is : (node reading : ℕ) → slice_get later_readings node ≡ Some reading
      → (node < length run.design.components) × (later_reading (reading_at w node) ≡ reading)
  reading_is node reading is =
      let many = length-map w.readings later_reading in
      let within : node < length later_readings = slice_get_within later_readings node reading is in
      let sizes = keeps.moments.readings in
      let before : slice_get w.readings node ≡ Some (reading_at w node) =
      slice_get-get_or w.readings node 0 (omega arith) in
      let after : slice_get later_readings node ≡ Some (later_reading (reading_at w node)) =
      slice_get-map later_reading w.readings node ∙ ap (option_map later_reading) before in
      (omega arith, same_Some _ _ (sym after ∙ is))

  go_on : GoOnNear run w (suc w.time) later_readings
  go_on = record {
    many = length-map w.readings later_reading ∙ keeps.moments.readings;
    forward = λ node reading is. let later = (reading_is node reading is).1 in omega arith;
    near = λ node reading is.
        let found = reading_is node reading is in
        let near = keeps.clocks node found.0 in
        let fast = near.fast in
        let later = found.1 in
        let skew = rules.design.gamma.skew.0 in
        record { slow = omega arith; fast = omega arith };
  }

  -- ---- nodes and messages
  abbrev NodeWaits : ℕ → Type 0
  NodeWaits node = KeepsDeadline (suc w.time) (node_deadline run w node)

  abbrev LinkWaits : ℕ → Type 0
  LinkWaits number =
      (k : ℕ) (copy : FlightCopy) → slice_get (flight_at w.bus number) k ≡ Some copy
      → suc w.time ≤ message_deadline run w number copy.round

  node_waits : (node : ℕ) → node < length run.design.components → CanGoOn run w ⊎ NodeWaits node
  node_waits node within = elim (come_or_not w.time (node_deadline run w node)) [
    | inl come ↦ inl (node_event run w rules keeps node within come)
    | inr waits ↦ inr waits
  ]

  all_wait : (number : ℕ) (x : FlightCopy) (xs : List FlightCopy) → w.time < message_deadline run w number x.round
      → ((k : ℕ) (copy : FlightCopy) → slice_get xs k ≡ Some copy
      → suc w.time ≤ message_deadline run w number copy.round)
      → (k : ℕ) (copy : FlightCopy) → slice_get (x ∷ xs) k ≡ Some copy
      → suc w.time ≤ message_deadline run w number copy.round
  all_wait number x xs below later zero copy is =
      subst (λ (c : FlightCopy). suc w.time ≤ message_deadline run w number c.round) (same_Some _ _ is) (omega arith)
  all_wait number x xs below later (suc k) copy is = later k copy is

  copies_wait : (number : ℕ) → number < length run.design.links → (xs : List FlightCopy)
      → ((k : ℕ) (copy : FlightCopy) → slice_get xs k ≡ Some copy
      → is_in_flight copy.round (flight_at w.bus number) ≡ true)
      → CanGoOn run w ⊎ ((k : ℕ) (copy : FlightCopy) → slice_get xs k ≡ Some copy
      → suc w.time ≤ message_deadline run w number copy.round)
  copies_wait number within [] fly = inr (λ k copy is. absurd (cc))
  copies_wait number within (x ∷ xs) fly = elim (cases_lt w.time (message_deadline run w number x.round)) [
    | inr come ↦ inl (message_event run w rules keeps number x.round within (fly zero x refl) come)
    | inl below ↦ elim (copies_wait number within xs (λ k copy is. fly (suc k) copy is)) [
      | inl goes ↦ inl goes
      | inr later ↦ inr (all_wait number x xs below later)
    ]
  ]

  link_waits : (number : ℕ) → number < length run.design.links → CanGoOn run w ⊎ LinkWaits number
  link_waits number within =
      copies_wait number within (flight_at w.bus number)
      (λ k copy is. found_in copy.round (flight_at w.bus number) k copy is refl)

  pub can_go_on : CanGoOn run w
  can_go_on = elim (first_or_none (λ node. CanGoOn run w) NodeWaits (length run.design.components) node_waits) [
    | inl first ↦ first.found
    | inr nodes ↦ elim (first_or_none (λ number. CanGoOn run w) LinkWaits (length run.design.links) link_waits) [
      | inl first ↦ first.found
      | inr links ↦
          time_passes later_readings
          (pass_can_occur run w (suc w.time) later_readings go_on (omega arith) nodes
          (λ number k copy within is. links number within k copy is))
    ]
  ]

-- ---- lists
pub left_keeps : (run : Run) (w : World) (events : List Event) → IsRunOf run → KeepsTime run w → IsWithin run w events
    → KeepsTime run (world_left run w events)
left_keeps run w [] rules keeps within = keeps
left_keeps run w (e ∷ events) rules keeps within =
    left_keeps run (world_after run w e) events rules (event_keeps_time run w e rules keeps within.0) within.1

pub lists_can_go_on : (run : Run) (events : List Event) → IsRunOf run → IsWithin run (opening_world run) events
    → CanGoOn run (world_left run (opening_world run) events)
lists_can_go_on run events rules within =
    can_go_on run (world_left run (opening_world run) events) rules
    (left_keeps run (opening_world run) events rules (opening_keeps_time run rules) within)
