-- What an audit keeps from line to line.
use Rattle.std.proofs.Common.{◌≡◌, ℕ, zero, suc, Bool, true, not, cond, List, ◌∷◌, length, map, Option, Some, None}
use Rattle.std.proofs.Common.{refl, sym, ap, ◌∙◌}
use Rattle.std.specs.Prelude.{replicate, IfSome}
use Rattle.pals_base.specs.UpwardNumbers.{upwards}
use Rattle.pals_model.specs.declared.design.DesignParts.{DesignParts}
use Rattle.pals_runs.specs.declared.journal.Arrived.TheVariants.{Kept, Ignored, Early}
use Rattle.pals_runs.specs.declared.journal.JournalEntry.{JournalEntry}
use Rattle.pals_runs.specs.declared.journal.JournalEntry.TheVariants as entry
use Rattle.pals_runs.specs.declared.verdicts.TraceRule.TheVariants as rule
use Rattle.bus_machine.specs.Nodes.{NodeState}
use Rattle.bus_machine.specs.BusStates.{BusState, opening}
use Rattle.bus_machine.specs.RunParameters.{Run}
use Rattle.bus_machine.specs.Machine.{BusEvent, after}
use Rattle.run_laws.specs.EntriesOfDesigns.{IsEntryIn}
use Rattle.run_laws.specs.EntryEventsAndReadings.{event_of, has_reading, timed}
use Rattle.run_laws.specs.TraceRules.{broken, is_line_of}
use Rattle.run_laws.specs.TraceVerdicts.{Audit, audit_after, audit_event, line_broken, noted}
use Rattle.trace_audit.specs.proof.OwedStops.{owed_by}
use Rattle.trace_audit.proofs.OwedStops.{owed_behind}

-- no reading is noted before the first line
zeros : (f : ℕ → NodeState) (from n : ℕ) → map {B = ℕ} (λ (_ : NodeState). 0) (map f (upwards from n)) ≡ replicate n 0
zeros f from zero = refl
zeros f from (suc n) = ap (λ ks. 0 ∷ ks) (zeros f (suc from) n)

pub no_readings : (run : Run)
    → map {B = ℕ} (λ (_ : NodeState). 0) (opening run).nodes ≡ replicate (length run.design.components) 0
no_readings run = zeros _ 0 (length run.design.components)

pub owed_within : (design : DesignParts) (e : JournalEntry) → IsEntryIn design e → IfSome (owed_by e) (IsEntryIn design)
owed_within design (entry.Arrive link round reading Kept) fits = tt
owed_within design (entry.Arrive link round reading Ignored) fits = tt
owed_within design (entry.Arrive link round reading Early) fits = fits
owed_within design (entry.Start node round reading) fits = tt
owed_within design (entry.Step node round step reading) fits = tt
owed_within design (entry.Finish node round) fits = tt
owed_within design (entry.Send node round reading) fits = tt
owed_within design (entry.Drop link round) fits = tt
owed_within design (entry.Repeat link round) fits = tt
owed_within design (entry.Stopped why) fits = tt

-- a line where a stop is owed
pub stop_line : (run : Run) (s : BusState) (readings : List ℕ) (owed : Option JournalEntry) (e x : JournalEntry)
    (r : Bool) → has_reading (timed run.design e) ≡ true → owed ≡ Some x → r ≡ is_line_of run.design e (Some x)
    → cond r None (Some rule.Stop) ≡ line_broken run (record { bus = s; readings = readings; owed = owed }) (Some e)
stop_line run s readings owed e x r reads is line =
    ap (λ b. cond b None (Some rule.Stop)) line
    ∙ sym (ap (λ o. line_broken run (record { bus = s; readings = readings; owed = o }) (Some e)) is
    ∙ ap (λ b. cond (not b) (Some rule.Text) (cond (is_line_of run.design e (Some x)) None (Some rule.Stop))) reads)

-- an event that breaks no rule
pub audit_next : (run : Run) (s t : BusState) (readings before kept_ : List ℕ) (owed o : Option JournalEntry)
    (e : JournalEntry) (event : BusEvent) → event_of run.design e ≡ Some event → t ≡ after run s event
    → broken run s before e ≡ None
    → kept_ ≡ noted readings (timed run.design e) → o ≡ owed_by e → owed ≡ None
    → record { bus = t; readings = kept_; owed = o }
    ≡ audit_after run (record { bus = s; readings = readings; owed = owed }) e
audit_next run s t readings before kept_ owed o e event is happens none notes owes no_stop =
    let a : Audit = record { bus = s; readings = readings; owed = None } in
    let rs = noted readings (timed run.design e) in
    ap (λ b. record { bus = b; readings = kept_; owed = o }) happens
    ∙ ap (λ ns. record { bus = after run s event; readings = ns; owed = o }) notes
    ∙ ap (λ w. record { bus = after run s event; readings = rs; owed = w })
    (owes ∙ sym (owed_behind run s before e event is none))
    ∙ sym (ap (λ w. audit_after run (record { bus = s; readings = readings; owed = w }) e) no_stop
    ∙ ap (audit_event run a rs) is)
