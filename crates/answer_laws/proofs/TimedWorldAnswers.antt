-- The events of a scenario have an answer in a timed world, and one alone.
use Rattle.std.proofs.Common.{◌≡◌, ◌∙◌, ◌⊎◌, inl, inr, ℕ, zero, suc, ◌≤◌, List, [], ◌∷◌, ◌++◌, take, Option, None, Some}
use Rattle.std.proofs.Common.{slice_get, refl, sym, ap, ap₂}
use Rattle.std.proofs.lemmas.Option.{same_Some, none-some}
use Rattle.pals_model.specs.RoundTexts.{line_end}
use Rattle.pals_runs.specs.declared.events_and_faults.Event.{Event}
use Rattle.pals_runs.specs.declared.events_and_faults.EventFault.{EventFault}
use Rattle.bus_machine.specs.RunParameters.{Run}
use Rattle.bus_machine.specs.WorldTexts.{worldtext}
use Rattle.pals_base.specs.declared.limits.TheConstants.{ROUNDS}
use Rattle.bus_machine.specs.proof.AgreementLaws.{IsRunOf}
use Rattle.run_laws.proofs.KeptWorldInvariant.{lists_go_right}
use Rattle.run_laws.specs.Worlds.{World, opening_world, world_after}
use Rattle.run_laws.specs.EventFaults.{fault_of}
use Rattle.run_laws.specs.EventLists.{IsWithin, world_left}
use Rattle.pals_report.specs.EventFaultLines.{event_fault_line}
use Rattle.trace_laws.specs.WorldTraces.{IsCarriedInTime}
use Rattle.trace_laws.proofs.WorldTraces.{worlds_are_traces}
use Rattle.world_texts.specs.WorldTexts.{IsToldWorld}
use Rattle.pals_top.specs.declared.status.TheConstants.{DONE, SCENARIO_REFUSED}
use Rattle.pals_top.specs.TimedWorlds.{HasTimedFault}

module _ (run : Run) where
  -- the event of a place has this fault, and none before it has one
  record FaultAt (w : World) (events : List Event) (index : ℕ) (why : EventFault) : Type 0 where
    event : Event
    is_event : slice_get events index ≡ Some event
    before : IsWithin run w (take index events)
    fault_is : fault_of run (world_left run w (take index events)) event ≡ Some why

  -- after the first event
  later : (w : World) (e : Event) (events : List Event) (index : ℕ) (why : EventFault)
      → FaultAt w (e ∷ events) (suc index) why
      → FaultAt (world_after run w e) events index why
  later w e events index why x =
      record { event = x.event; is_event = x.is_event; before = x.before.1; fault_is = x.fault_is }

  first : (w : World) (e : Event) (events : List Event) (why : EventFault) → FaultAt w (e ∷ events) 0 why
      → fault_of run w e ≡ Some why
  first w e events why x = ap (fault_of run w) (same_Some e x.event x.is_event) ∙ x.fault_is

  one_fault : (w : World) (events : List Event) (i j : ℕ) (why who : EventFault) → FaultAt w events i why
      → FaultAt w events j who → (i ≡ j) × (why ≡ who)
  one_fault w [] i j why who x y = absurd (none-some x.event x.is_event)
  one_fault w (e ∷ events) zero zero why who x y =
      (refl, same_Some why who (sym (first w e events why x) ∙ first w e events who y))
  one_fault w (e ∷ events) zero (suc j) why who x y = absurd (none-some why (sym y.before.0 ∙ first w e events why x))
  one_fault w (e ∷ events) (suc i) zero why who x y = absurd (none-some who (sym x.before.0 ∙ first w e events who y))
  one_fault w (e ∷ events) (suc i) (suc j) why who x y =
      let rest =
      one_fault (world_after run w e) events i j why who (later w e events i why x) (later w e events j who y) in
      (ap suc rest.0, rest.1)

  within_or_fault : (w : World) (events : List Event) (i : ℕ) (why : EventFault) → IsWithin run w events
      → FaultAt w events i why → ⊥
  within_or_fault w [] i why x y = absurd (none-some y.event y.is_event)
  within_or_fault w (e ∷ events) zero why x y = absurd (none-some why (sym x.0 ∙ first w e events why y))
  within_or_fault w (e ∷ events) (suc i) why x y =
      within_or_fault (world_after run w e) events i why x.1 (later w e events i why y)

  fault_at : (events : List Event) (a : List ℕ) (x : HasTimedFault run events a)
      → FaultAt (opening_world run) events x.index x.fault
  fault_at events a x =
      record {
        event = x.first.event;
        is_event = x.first.is_event;
        before = x.first.before;
        fault_is = x.first.fault_is;
      }

  -- ---- answers
  abbrev IsTimed : List Event → ℕ → List ℕ → Type 0
  IsTimed events status text =
      ((status ≡ DONE) × IsToldWorld run events text) ⊎ ((status ≡ SCENARIO_REFUSED) × HasTimedFault run events text)

  pub one_timed : (events : List Event) (s t : ℕ) (a b : List ℕ) → IsTimed events s a → IsTimed events t b
      → (s ≡ t) × (a ≡ b)
  one_timed events s t a b (inl x) (inl y) = (x.0 ∙ sym y.0, x.1.text_is ∙ sym y.1.text_is)
  one_timed events s t a b (inl x) (inr y) =
      absurd (within_or_fault (opening_world run) events y.1.index y.1.fault x.1.within (fault_at events b y.1))
  one_timed events s t a b (inr x) (inl y) =
      absurd (within_or_fault (opening_world run) events x.1.index x.1.fault y.1.within (fault_at events a x.1))
  one_timed events s t a b (inr x) (inr y) =
      let same =
      one_fault (opening_world run) events x.1.index y.1.index x.1.fault y.1.fault (fault_at events a x.1)
      (fault_at events b y.1) in (
        x.0 ∙ sym y.0,
        x.1.text_is
            ∙ (ap₂ (λ (i : ℕ) (f : EventFault). event_fault_line run.design i f ++ line_end) same.0 same.1
            ∙ sym y.1.text_is),
      )

  -- ---- there is one
  -- the events are within the bounds, or one of them is the first that is not
  abbrev Ends : World → List Event → Type 0
  Ends w events = IsWithin run w events ⊎ ((index : ℕ) × (why : EventFault) × FaultAt w events index why)

  goes_on : (w : World) (e : Event) (events : List Event) → fault_of run w e ≡ None → Ends (world_after run w e) events
      → Ends w (e ∷ events)
  goes_on w e events fine (inl within) = inl (fine, within)
  goes_on w e events fine (inr x) =
      inr (
        suc x.0,
        x.1,
        record {
          event = x.2.event;
          is_event = x.2.is_event;
          before = (fine, x.2.before);
          fault_is = x.2.fault_is;
        },
      )

  ends_by : (w : World) (e : Event) (events : List Event) (found : Option EventFault) → fault_of run w e ≡ found
      → Ends (world_after run w e) events → Ends w (e ∷ events)
  ends_by w e events None is rest = goes_on w e events is rest
  ends_by w e events (Some why) is rest =
      inr (zero, why, record { event = e; is_event = refl; before = tt; fault_is = is })

  ends : (w : World) (events : List Event) → Ends w events
  ends w [] = inl tt
  ends w (e ∷ events) = ends_by w e events (fault_of run w e) refl (ends (world_after run w e) events)

  answered_by : (events : List Event) → IsRunOf run → run.rounds ≤ ROUNDS → IsCarriedInTime run
      → Ends (opening_world run) events
      → (status : ℕ) × (text : List ℕ) × IsTimed events status text
  answered_by events rules few carried (inl within) = (
    DONE,
    worldtext run.design run.env events,
    inl (
      refl,
      record {
        within = within;
        right = lists_go_right run events rules within;
        recorded = worlds_are_traces run events rules few carried within;
        text_is = refl;
      },
    ),
  )
  answered_by events rules few carried (inr x) = (
    SCENARIO_REFUSED,
    event_fault_line run.design x.0 x.1 ++ line_end,
    inr (
      refl,
      record {
        index = x.0;
        fault = x.1;
        first = record { event = x.2.event; is_event = x.2.is_event; before = x.2.before; fault_is = x.2.fault_is };
        text_is = refl;
      },
    ),
  )

  pub answered : IsRunOf run → run.rounds ≤ ROUNDS → IsCarriedInTime run → (events : List Event)
      → (status : ℕ) × (text : List ℕ) × IsTimed events status text
  answered rules few carried events = answered_by events rules few carried (ends (opening_world run) events)
