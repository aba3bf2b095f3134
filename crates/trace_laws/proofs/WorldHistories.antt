-- The journal of a list of events within the bounds, each arrival put off to the start that reads it, is a history's.
use Rattle.std.proofs.Common.{◌≡◌, ◌-◌, ◌≤◌, List, [], ◌∷◌, ◌++◌, length, map}
use Rattle.std.proofs.Common.{All, Option, Some, None, refl, sym, ap, ap₂, ◌∙◌, subst, arith}
use Rattle.std.proofs.lemmas.List.{append-nil, append_assoc}
use Rattle.std.proofs.lemmas.List.Elements.{All-nil}
use Rattle.std.proofs.lemmas.Option.{none-some}
use Rattle.pals_base.specs.declared.basic_types.PortValue.{PortValue}
use Rattle.pals_base.specs.UpwardNumbers.{upwards}
use Rattle.pals_model.specs.declared.design.Link.{Link}
use Rattle.pals_model.specs.declared.flight_copy.FlightCopy.{FlightCopy}
use Rattle.pals_base.specs.declared.limits.TheConstants.{ROUNDS}
use Rattle.pals_runs.specs.declared.events_and_faults.Event.{Event}
use Rattle.pals_runs.specs.declared.journal.JournalEntry.{JournalEntry}
use Rattle.bus_machine.specs.declared.plan.Input.{Input}
use Rattle.bus_machine.specs.Nodes.{NodeState, opening_node, sent_rounds}
use Rattle.bus_machine.specs.NodeEvents.{slot_at}
use Rattle.bus_machine.specs.MissedMessages.{rounds_sent_on}
use Rattle.bus_machine.specs.Plans.{plan_of, link_at}
use Rattle.bus_machine.specs.BusStates.{BusState, opening, node_at, flight_at}
use Rattle.bus_machine.specs.RunParameters.{Run}
use Rattle.bus_machine.specs.proof.AgreementLaws.{IsRunOf}
use Rattle.bus_machine.proofs.MessageAndRunAgreement.{node_opens}
use Rattle.run_laws.proofs.WorldLinkTiming.{rule_of}
use Rattle.list_lemmas.proofs.ElementPositions.{get_or-map_constant}
use Rattle.run_laws.specs.EntriesOfDesigns.{IsEntryIn}
use Rattle.run_laws.specs.EventFaults.{fault_of}
use Rattle.run_laws.specs.EventLists.{IsWithin, world_left}
use Rattle.run_laws.specs.HistoriesAndTraces.{opens}
use Rattle.run_laws.specs.Worlds.{World, opening_world, world_after}
use Rattle.run_laws.specs.proof.WorldInvariant.{KeepsTime}
use Rattle.run_laws.proofs.FaultlessEventConditions.{named, starts_in_time, steps_in_time, finishes_in_time}
use Rattle.run_laws.proofs.FaultlessEventConditions.{sends_in_time}
use Rattle.run_laws.proofs.FaultlessEventConditions.{arrives_in_time}
use Rattle.run_laws.proofs.KeptWorldInvariant.{event_keeps_time}
use Rattle.run_laws.proofs.OpeningWorlds.{opening_keeps_time}
use Rattle.trace_laws.specs.WorldTraces.{recorded, recorded_from, journal_of, IsCarriedInTime}
use Rattle.trace_laws.specs.proof.PutOffArrivals.{no_message, emptied, flying, rounds_of, IsDueBetween, IsPutOff}
use Rattle.trace_laws.proofs.PutOffPasses.{pass_put_off}
use Rattle.trace_laws.proofs.PutOffReceipts.{arrive_put_off}
use Rattle.trace_laws.proofs.PutOffSends.{send_put_off}
use Rattle.trace_laws.proofs.PutOffStarts.{start_put_off}
use Rattle.trace_laws.proofs.PutOffSteps.{step_put_off, finish_put_off}
use Rattle.pals_runs.specs.declared.events_and_faults.Event.TheVariants as event
use Rattle.pals_runs.specs.declared.events_and_faults.EventFault.TheVariants as fault

abbrev PutOffBy : Run → World → List JournalEntry → Type 0
PutOffBy run w journal = (u : BusState) × IsPutOff run w journal u

-- ---- one event
event_put_off : (run : Run) (w : World) (journal : List JournalEntry) (t : BusState) (e : Event) → IsRunOf run
    → run.rounds ≤ ROUNDS → IsCarriedInTime run → KeepsTime run w → IsPutOff run w journal t → fault_of run w e ≡ None
    → PutOffBy run (world_after run w e) (journal ++ recorded run w e)
event_put_off run w journal t (event.Pass time readings) rules few carried keeps put none =
    pass_put_off run w time readings none journal t put
event_put_off run w journal t (event.Start node) rules few carried keeps put none =
    start_put_off run w journal t rules few keeps put node (starts_in_time run w node none)
    (event_keeps_time run w (event.Start node) rules keeps none)
event_put_off run w journal t (event.Step node) rules few carried keeps put none =
    step_put_off run w journal t rules few keeps put node (steps_in_time run w node none)
event_put_off run w journal t (event.Finish node) rules few carried keeps put none =
    finish_put_off run w journal t rules few keeps put node (finishes_in_time run w node none)
event_put_off run w journal t (event.Send node) rules few carried keeps put none =
    send_put_off run w journal t rules few carried keeps put node (sends_in_time run w node none)
    (event_keeps_time run w (event.Send node) rules keeps none)
event_put_off run w journal t (event.Arrive link round) rules few carried keeps put none =
    arrive_put_off run w journal t rules keeps put link round (arrives_in_time run w link round none)
event_put_off run w journal t (event.Drop link round) rules few carried keeps put none =
    absurd (none-some fault.LossOrRepeat (sym (named run w (event.Drop link round) none).1))
event_put_off run w journal t (event.Repeat link round) rules few carried keeps put none =
    absurd (none-some fault.LossOrRepeat (sym (named run w (event.Repeat link round) none).1))

-- ---- a list
list_put_off : (run : Run) (w : World) (journal : List JournalEntry) (t : BusState) (events : List Event) → IsRunOf run
    → run.rounds ≤ ROUNDS → IsCarriedInTime run → KeepsTime run w → IsPutOff run w journal t → IsWithin run w events
    → PutOffBy run (world_left run w events) (journal ++ recorded_from run w events)
list_put_off run w journal t [] rules few carried keeps put within =
    (t, subst (λ told. IsPutOff run w told t) (sym (append-nil journal)) put)
list_put_off run w journal t (e ∷ events) rules few carried keeps put within =
    let one = event_put_off run w journal t e rules few carried keeps put within.0 in
    let all = list_put_off run (world_after run w e) (journal ++ recorded run w e) one.0 events rules few carried
    (event_keeps_time run w e rules keeps within.0) one.1 within.1 in (
      all.0,
      subst (λ told. IsPutOff run (world_left run (world_after run w e) events) told all.0)
          (append_assoc journal (recorded run w e) (recorded_from run (world_after run w e) events)) all.1,
    )

-- ---- the opening
map_fixed : {X Y : Type 0} (g : Y → Y) (f : X → Y) → ((x : X) → f x ≡ g (f x)) → (xs : List X)
    → map f xs ≡ map g (map f xs)
map_fixed g f fixed [] = refl
map_fixed g f fixed (x ∷ xs) = ap₂ (λ y ys. y ∷ ys) (fixed x) (map_fixed g f fixed xs)

no_slots : (inputs : List Input) → map (λ (_ : Input). None) inputs ≡ map no_message (map (λ (_ : Input). None) inputs)
no_slots [] = refl
no_slots (i ∷ inputs) = ap (λ slots. None ∷ slots) (no_slots inputs)

flying_none : (slot : Option (List PortValue)) → flying slot [] ≡ []
flying_none None = refl
flying_none (Some tuple) = refl

opening_put_off : (run : Run) → IsRunOf run → IsPutOff run (opening_world run) [] (opening run)
opening_put_off run rules = record {
  history = opens;
  of_design = All-nil (IsEntryIn run.design);
  going = refl;
  nodes =
      map_fixed emptied (λ node. opening_node (plan_of run.design node))
      (λ node. ap (λ slots. record (opening_node (plan_of run.design node)) { slots = slots })
      (no_slots (plan_of run.design node).inputs)) (upwards 0 (length run.design.components));
  links = λ number within.
      let link : Link = link_at run.design number in
      let rule = rule_of run number rules within in
      let none : flight_at (opening run) number ≡ [] =
      get_or-map_constant {Y = List FlightCopy} [] run.design.links number in
      let count : (node_at (opening run) link.target.0).count ≡ 0 =
      ap (λ (n : NodeState). n.count) (node_opens run link.target.0 rule.target.node_is) in
      let sent : rounds_sent_on run (opening run) number ≡ 0 =
      ap sent_rounds (node_opens run link.source.0 rule.source.node_is) in
      record {
        rounds = ap rounds_of none ∙ sym (ap₂ (λ c s. upwards (c - 1) (s - (c - 1))) count sent);
        flight = none
            ∙ sym (ap (flying (slot_at (node_at (opening run) link.target.0) link.in_port)) none
            ∙ flying_none (slot_at (node_at (opening run) link.target.0) link.in_port));
        due = subst (All (IsDueBetween run)) (sym none) (All-nil (IsDueBetween run));
      };
  read = λ node within. omega arith;
}

pub lists_are_histories : (run : Run) (events : List Event) → IsRunOf run → run.rounds ≤ ROUNDS → IsCarriedInTime run
    → IsWithin run (opening_world run) events
    → PutOffBy run (world_left run (opening_world run) events) (journal_of run events)
lists_are_histories run events rules few carried within =
    list_put_off run (opening_world run) [] (opening run) events rules few carried (opening_keeps_time run rules)
    (opening_put_off run rules) within
