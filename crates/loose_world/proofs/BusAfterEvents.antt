-- The bus after lists of events: loose events are events of a bus, and after all of them its journal replays and it
-- agrees with the composition.
use Rattle.std.proofs.Common.{◌≡◌, ◌∙◌, inl, inr, ℕ, List, [], ◌∷◌, ◌++◌, false, Option, Some, None, refl, sym, ap}
use Rattle.std.proofs.Common.{subst}
use Rattle.std.proofs.lemmas.Option.{same_Some}
use Rattle.step_code.specs.declared.instr.CodeParts.{CodeParts}
use Rattle.pals_base.specs.declared.basic_types.NodeNo.{NodeNo}
use Rattle.pals_runs.specs.declared.events_and_faults.Event.{Event}
use Rattle.pals_runs.specs.declared.events_and_faults.Event.TheVariants as event
use Rattle.pals_runs.specs.declared.journal.JournalEntry.{JournalEntry}
use Rattle.bus_machine.specs.RunParameters.{Run}
use Rattle.bus_machine.specs.Machine.{BusEvent, Start, Step, Finish, Send, Arrive, Drop, Repeat, IsStep}
use Rattle.bus_machine.specs.proof.AgreementLaws.{IsRunOf}
use Rattle.bus_machine.specs.Replay.{Replays, opens, goes_on, entries}
use Rattle.bus_machine.proofs.MessageAndRunAgreement.{opening_agrees, step_keeps_agreement}
use Rattle.pals_bus.specs.BusValues.{BusValue, Happens}
use Rattle.pals_bus.specs.proof.OpeningNodes.{opening_bus}
use Rattle.pals_bus.specs.LooseEvents.{loose_event, HappensLoose, GoesOn}
use Rattle.loose_world.specs.LooseRuns.{InTurn, AllHappen}
use Rattle.loose_world.specs.proof.BusAfterEvents.{event_of, Makes, Undergoes, IsLeftBy, IsReplayed}
use Rattle.loose_world.proofs.EventsAndLines.{turns_weaker}

-- ---- events of loose worlds
loose_is : (e : Event) (what : BusEvent) → loose_event e ≡ Some what → event_of what ≡ e
loose_is (event.Pass time readings) what is = absurd (cc)
loose_is (event.Start node) what is = ap event_of (sym (same_Some (Start node None) what is))
loose_is (event.Step node) what is = ap event_of (sym (same_Some (Step node None) what is))
loose_is (event.Finish node) what is = ap event_of (sym (same_Some (Finish node) what is))
loose_is (event.Send node) what is = ap event_of (sym (same_Some (Send node None) what is))
loose_is (event.Arrive link round) what is = ap event_of (sym (same_Some (Arrive link round None) what is))
loose_is (event.Drop link round) what is = ap event_of (sym (same_Some (Drop link round) what is))
loose_is (event.Repeat link round) what is = ap event_of (sym (same_Some (Repeat link round) what is))

pub undergoes_loose : (s : BusValue) (e : Event) (t : BusValue) → HappensLoose s e t → Undergoes s e t
undergoes_loose s e t loose = inr (record { what = loose.0; is_what = loose_is e loose.0 loose.1; happens = loose.2 })

pub left_by_loose : (run : Run) (programs : List CodeParts) (events : List Event) (t : BusValue) (lines : List (List ℕ))
    → AllHappen (opening_bus run programs false) events t lines → IsLeftBy run events t lines
left_by_loose run programs events t lines happen = record {
  programs = programs;
  undergone =
      turns_weaker GoesOn Undergoes (λ s e u goes. undergoes_loose s e u goes.happens) (opening_bus run programs false)
      t events lines happen;
}

-- ---- sends
-- an event of the bus that is a send of a node
send_is : (what : BusEvent) (node : NodeNo) → event_of what ≡ event.Send node
    → (reading : Option ℕ) × (what ≡ Send node reading)
send_is (Start j reading) node is = absurd (cc)
send_is (Step j reading) node is = absurd (cc)
send_is (Finish j) node is = absurd (cc)
send_is (Send j reading) node is = let same : j ≡ node = cc in (reading, ap (λ (k : NodeNo). Send k reading) same)
send_is (Arrive link round reading) node is = absurd (cc)
send_is (Drop link round) node is = absurd (cc)
send_is (Repeat link round) node is = absurd (cc)

pub makes_send : (s t : BusValue) (node : NodeNo) → Undergoes s (event.Send node) t
    → (reading : Option ℕ) × Happens s (Send node reading) t
makes_send s t node (inl rests) = let clash = rests.is_pass in absurd (cc clash)
makes_send s t node (inr makes) =
    let send = send_is makes.what node makes.is_what in
    (send.0, subst (λ (e : BusEvent). Happens s e t) send.1 makes.happens)

-- ---- one event preserves the replay
makes_replayed : (run : Run) (s t : BusValue) (e : Event) → IsRunOf run → IsReplayed run s → Makes s e t
    → IsReplayed run t
makes_replayed run s t e rules before makes =
    let what : BusEvent = makes.what in
    let happens : Happens s what t = makes.happens in
    let step = subst (λ r. IsStep r s.state what t.state) before.run_is happens.step in
    let journal : t.journal ≡ s.journal ++ entries run s.state what =
    happens.journal ∙ ap (λ (r : Run). s.journal ++ entries r s.state what) before.run_is in
    record {
      run_is = ap (λ (b : BusValue). b.run) happens.others ∙ before.run_is;
      replays =
          subst (λ (told : List JournalEntry). Replays run told t.state) (sym journal)
          (goes_on what before.replays step);
      agrees = step_keeps_agreement run s.state t.state what rules before.agrees step;
    }

pub stays_replayed : (run : Run) (s t : BusValue) (e : Event) → IsRunOf run → IsReplayed run s → Undergoes s e t
    → IsReplayed run t
stays_replayed run s t e rules before (inl rests) = subst (IsReplayed run) (sym rests.same) before
stays_replayed run s t e rules before (inr makes) = makes_replayed run s t e rules before makes

-- ---- and so do all
all_replayed : (run : Run) (s t : BusValue) (events : List Event) (lines : List (List ℕ)) → IsRunOf run
    → IsReplayed run s
    → InTurn Undergoes s events t lines → IsReplayed run t
all_replayed run s t [] lines rules before turns = subst (IsReplayed run) (sym turns.0) before
all_replayed run s t (e ∷ events) lines rules before turns =
    all_replayed run turns.0 t events turns.1 rules (stays_replayed run s turns.0 e rules before turns.2) turns.3

pub opens_replayed : (run : Run) (programs : List CodeParts) → IsRunOf run
    → IsReplayed run (opening_bus run programs false)
opens_replayed run programs rules = record { run_is = refl; replays = opens; agrees = opening_agrees run rules }

pub events_replay : (run : Run) (events : List Event) (t : BusValue) (lines : List (List ℕ)) → IsRunOf run
    → IsLeftBy run events t lines
    → IsReplayed run t
events_replay run events t lines rules left =
    all_replayed run (opening_bus run left.programs false) t events lines rules (opens_replayed run left.programs rules)
    left.undergone
