-- If an entry violates no rule, the stop that must follow it is the second entry of its event on the bus.
use Rattle.std.proofs.Common.{◌≡◌, ℕ, Bool, true, false, ◌&&◌, List, ◌∷◌, Option, Some, None, refl, sym, ap, ◌∙◌}
use Rattle.std.specs.Prelude.{is_none, option_and_then}
use Rattle.std.specs.Option.{option_map_or}
use Rattle.std.proofs.lemmas.Bool.{and_parts}
use Rattle.pals_runs.specs.declared.journal.Stop.{Stop}
use Rattle.pals_runs.specs.declared.journal.Stop.TheVariants as stop
use Rattle.pals_runs.specs.declared.journal.JournalEntry.{JournalEntry}
use Rattle.pals_runs.specs.declared.journal.JournalEntry.TheVariants as entry
use Rattle.pals_runs.specs.declared.verdicts.TraceRule.TheVariants as rule
use Rattle.bus_machine.specs.BusStates.{BusState}
use Rattle.bus_machine.specs.RunParameters.{Run}
use Rattle.bus_machine.specs.Machine.{BusEvent, arrival, early_stop}
use Rattle.bus_machine.specs.Replay.{entries, stop_entry}
use Rattle.run_laws.specs.EntryEventsAndReadings.{event_of, timed}
use Rattle.run_laws.specs.TraceRules.{broken, falls, fits, is_in_order, tells_stop, too_early, waits}
use Rattle.run_laws.specs.TraceVerdicts.{second_entry}
use Rattle.run_laws.proofs.SoundEntryEvents.{same_arrived}
use Rattle.trace_audit.specs.proof.FirstBrokenRule.{first_rule}
use Rattle.trace_audit.specs.proof.OwedStops.{owed_by, stop_of}

-- ---- the stop that must follow an entry
second_of : (x : JournalEntry) (o : Option Stop) → second_entry (x ∷ stop_entry o) ≡ stop_of o
second_of x None = refl
second_of x (Some why) = refl

second : Run → BusState → Option BusEvent → Option JournalEntry
second run s o = option_and_then (λ event. second_entry (entries run s event)) o

second_is : (run : Run) (s : BusState) (e : JournalEntry) → fits run s e ≡ true
    → second run s (event_of run.design e) ≡ owed_by e
unfolding second
second_is run s (entry.Arrive link round reading outcome) fit =
    second_of (entry.Arrive link round reading (arrival run s link round))
    (early_stop link round reading (arrival run s link round))
    ∙ ap (λ a. stop_of (early_stop link round reading a)) (sym (same_arrived outcome (arrival run s link round) fit))
second_is run s (entry.Start node round reading) fit = refl
second_is run s (entry.Step node round step reading) fit = refl
second_is run s (entry.Finish node round) fit = refl
second_is run s (entry.Send node round reading) fit = refl
second_is run s (entry.Drop link round) fit = refl
second_is run s (entry.Repeat link round) fit = refl
second_is run s (entry.Stopped (stop.Missed link round reading cause)) fit = refl
second_is run s (entry.Stopped (stop.Early link round reading)) fit = refl

ordered_by : (run : Run) (s : BusState) (readings : List ℕ) (e : JournalEntry) (b : Bool) → is_in_order run s e ≡ b
    → broken run s readings e ≡ None → is_in_order run s e ≡ true
ordered_by run s readings e true is none = is
ordered_by run s readings e false is none =
    let order : Some rule.Order ≡ broken run s readings e =
    sym (ap (λ b. first_rule b (falls readings (timed run.design e)) (too_early run s e) (waits run s e)
    (tells_stop run s e (event_of run.design e))) is) in
    absurd (cc)

pub owed_behind : (run : Run) (s : BusState) (readings : List ℕ) (e : JournalEntry) (event : BusEvent)
    → event_of run.design e ≡ Some event → broken run s readings e ≡ None
    → second_entry (entries run s event) ≡ owed_by e
unfolding second
owed_behind run s readings e event is none =
    let order = ordered_by run s readings e (is_in_order run s e) refl none in
    let fit = (and_parts (is_none s.stop && option_map_or _ (event_of run.design e) true) (fits run s e) order).1 in
    ap (second run s) (sym is) ∙ second_is run s e fit
