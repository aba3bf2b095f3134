-- Which rule an entry breaks first.
use Rattle.std.proofs.Common.{◌≡◌, ℕ, Bool, true, false, ◌&&◌, List, Option, Some, None, refl, sym, ap, ◌∙◌}
use Rattle.std.specs.Prelude.{is_none}
use Rattle.std.specs.Option.{option_map_or}
use Rattle.std.proofs.Math.Bool.{and-true}
use Rattle.std.proofs.lemmas.Bool.{and_left, and_right}
use Rattle.pals_model.proofs.WordBytes.{same_bytes}
use Rattle.pals_runs.specs.declared.journal.JournalEntry.{JournalEntry}
use Rattle.pals_runs.specs.JournalLines.{entry_line}
use Rattle.pals_runs.specs.declared.verdicts.TraceRule.{TraceRule}
use Rattle.pals_runs.specs.declared.verdicts.TraceRule.TheVariants as rule
use Rattle.bus_machine.specs.BusStates.{BusState}
use Rattle.bus_machine.specs.RunParameters.{Run}
use Rattle.bus_machine.specs.Machine.{BusEvent, is_allowed}
use Rattle.bus_machine.specs.Replay.{entries}
use Rattle.run_laws.specs.EntryEventsAndReadings.{timed, event_of}
use Rattle.run_laws.specs.TraceRules.{broken, falls, first_entry, fits, is_in_order, is_line_of, tells_stop, too_early}
use Rattle.run_laws.specs.TraceRules.{waits}
use Rattle.trace_audit.specs.proof.FirstBrokenRule.{first_rule}

-- an entry whose numbers are its event's, in a run without a stop
told_rule : (run : Run) (s : BusState) (readings : List ℕ) (e : JournalEntry) (event : BusEvent)
    (early : Option TraceRule) (falling waiting telling : Bool) → s.stop ≡ None → event_of run.design e ≡ Some event
    → fits run s e ≡ true
    → falls readings (timed run.design e) ≡ falling → too_early run s e ≡ early → waits run s e ≡ waiting
    → is_line_of run.design e (first_entry (entries run s event)) ≡ telling
    → broken run s readings e ≡ first_rule (is_allowed run s event) falling early waiting telling
told_rule run s readings e event early falling waiting telling going is fit falls_is early_is waits_is tells_is =
    ap (λ o. first_rule (is_none o && option_map_or (is_allowed run s) (event_of run.design e) true && fits run s e)
    (falls readings (timed run.design e)) (too_early run s e) (waits run s e)
    (tells_stop run s e (event_of run.design e))) going
    ∙ ap (λ o. first_rule (option_map_or (is_allowed run s) o true && fits run s e)
    (falls readings (timed run.design e)) (too_early run s e) (waits run s e) (tells_stop run s e o)) is
    ∙ ap (λ b. first_rule (is_allowed run s event && b) (falls readings (timed run.design e)) (too_early run s e)
    (waits run s e) (is_line_of run.design e (first_entry (entries run s event)))) fit
    ∙ ap (λ b. first_rule b (falls readings (timed run.design e)) (too_early run s e) (waits run s e)
    (is_line_of run.design e (first_entry (entries run s event)))) (and-true (is_allowed run s event))
    ∙ ap (λ b. first_rule (is_allowed run s event) b (too_early run s e) (waits run s e)
    (is_line_of run.design e (first_entry (entries run s event)))) falls_is
    ∙ ap (λ o. first_rule (is_allowed run s event) falling o (waits run s e)
    (is_line_of run.design e (first_entry (entries run s event)))) early_is
    ∙ ap (λ b. first_rule (is_allowed run s event) falling early b
    (is_line_of run.design e (first_entry (entries run s event)))) waits_is
    ∙ ap (λ b. first_rule (is_allowed run s event) falling early waiting b) tells_is

-- an entry that is not in order
disordered : (run : Run) (s : BusState) (readings : List ℕ) (e : JournalEntry) → is_in_order run s e ≡ false
    → broken run s readings e ≡ Some rule.Order
disordered run s readings e is =
    ap (λ b. first_rule b (falls readings (timed run.design e)) (too_early run s e) (waits run s e)
    (tells_stop run s e (event_of run.design e))) is

-- an entry whose numbers are not its event's
pub unfit : (run : Run) (s : BusState) (readings : List ℕ) (e : JournalEntry) → fits run s e ≡ false
    → Some rule.Order ≡ broken run s readings e
unfit run s readings e none =
    sym (disordered run s readings e
    (and_right (is_none s.stop && option_map_or (is_allowed run s) (event_of run.design e) true) (fits run s e) none))

-- an entry after a stop
pub stopped : (run : Run) (s : BusState) (readings : List ℕ) (e : JournalEntry) → is_none s.stop ≡ false
    → Some rule.Order ≡ broken run s readings e
stopped run s readings e none =
    sym (disordered run s readings e
    (and_left (is_none s.stop && option_map_or (is_allowed run s) (event_of run.design e) true) (fits run s e)
    (and_left (is_none s.stop) (option_map_or (is_allowed run s) (event_of run.design e) true) none)))

-- an event that the machine does not allow
pub refused : (run : Run) (s : BusState) (readings : List ℕ) (e : JournalEntry) (event : BusEvent)
    → event_of run.design e ≡ Some event → is_allowed run s event ≡ false → Some rule.Order ≡ broken run s readings e
refused run s readings e event is none =
    let here : option_map_or (is_allowed run s) (event_of run.design e) true ≡ false =
    ap (λ o. option_map_or (is_allowed run s) o true) is ∙ none in
    sym (disordered run s readings e
    (and_left (is_none s.stop && option_map_or (is_allowed run s) (event_of run.design e) true) (fits run s e)
    (and_right (is_none s.stop) (option_map_or (is_allowed run s) (event_of run.design e) true) here)))

-- ---- an event that it allows, before its alarm or release, and at its time
pub early_breaks : (run : Run) (s : BusState) (readings : List ℕ) (e : JournalEntry) (event : BusEvent)
    (why r : TraceRule) (falling : Bool) → s.stop ≡ None → event_of run.design e ≡ Some event → fits run s e ≡ true
    → is_allowed run s event ≡ true
    → falling ≡ falls readings (timed run.design e) → too_early run s e ≡ Some why
    → ((waiting telling : Bool) → Some r ≡ first_rule true falling (Some why) waiting telling)
    → Some r ≡ broken run s readings e
early_breaks run s readings e event why r falling going is fit allowed falls_is early rule_is =
    let waiting = waits run s e in
    let telling = is_line_of run.design e (first_entry (entries run s event)) in
    rule_is waiting telling
    ∙ sym (told_rule run s readings e event (Some why) falling waiting telling going is fit (sym falls_is)
    early refl refl
    ∙ ap (λ b. first_rule b falling (Some why) waiting telling) allowed)

pub late_breaks : (run : Run) (s : BusState) (readings : List ℕ) (e : JournalEntry) (event : BusEvent)
    (r : Option TraceRule) (falling waiting telling : Bool) → s.stop ≡ None → event_of run.design e ≡ Some event
    → fits run s e ≡ true → is_allowed run s event ≡ true
    → falling ≡ falls readings (timed run.design e) → too_early run s e ≡ None → waiting ≡ waits run s e
    → is_line_of run.design e (first_entry (entries run s event)) ≡ telling
    → r ≡ first_rule true falling None waiting telling → r ≡ broken run s readings e
late_breaks run s readings e event r falling waiting telling going is fit allowed falls_is late waits_is
    tells_is rule_is =
    rule_is
    ∙ sym (told_rule run s readings e event None falling waiting telling going is fit (sym falls_is) late
    (sym waits_is) tells_is
    ∙ ap (λ b. first_rule b falling None waiting telling) allowed)

-- a line is its own
pub own_line : (run : Run) (s : BusState) (e : JournalEntry) (event : BusEvent)
    → first_entry (entries run s event) ≡ Some e → is_line_of run.design e (first_entry (entries run s event)) ≡ true
own_line run s e event first = ap (is_line_of run.design e) first ∙ same_bytes (entry_line run.design e)
