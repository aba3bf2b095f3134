-- The rule that the entry of a start violates, once the start has happened on the bus.
use Rattle.std.proofs.Common.{◌≡◌, ◌↔◌, ℕ, ◌<◌, ◌≤◌, Bool, true, false, cond, List, [], ◌∷◌, ◌++◌, length, Option, Some}
use Rattle.std.proofs.Common.{None, inl, inr, IsTrue, sym, ap, ◌∙◌}
use Rattle.pals_base.specs.declared.limits.TheConstants.{ROUNDS}
use Rattle.pals_base.specs.declared.basic_types.NodeNo.{NodeNo}
use Rattle.pals_model.specs.DesignRules.{IsDesign}
use Rattle.pals_runs.specs.declared.journal.Stop.{Stop}
use Rattle.pals_runs.specs.declared.journal.JournalEntry.{JournalEntry}
use Rattle.pals_runs.specs.declared.verdicts.TraceRule.{TraceRule}
use Rattle.pals_runs.specs.declared.verdicts.TraceRule.TheVariants as rule
use Rattle.bus_machine.specs.BusStates.{node_at}
use Rattle.bus_machine.specs.MissedMessages.{missing_link}
use Rattle.bus_machine.specs.Machine.{Start}
use Rattle.bus_machine.specs.Replay.{start_entry}
use Rattle.run_laws.specs.EntriesOfDesigns.{IsEntryIn}
use Rattle.run_laws.specs.TraceRules.{alarm_at, broken, falls}
use Rattle.pals_node.specs.proof.Answers.{is_early}
use Rattle.pals_bus.specs.proof.Answers.{MissesMessage, StoppedAtStart}
use Rattle.pals_bus.specs.proof.DueMessages.{HasDue}
use Rattle.pals_bus.specs.BusValues.{BusValue, Happens}
use Rattle.trace_audit.specs.proof.EntryClocks.{read_at}
use Rattle.trace_audit.specs.proof.ReplayedEvents.{IsReady, SaysStart}
use Rattle.trace_audit.specs.proof.FirstBrokenRule.{first_rule}
use Rattle.trace_audit.proofs.BrokenRules.{late_breaks}
use Rattle.trace_audit.proofs.DueMessages.{due_is}
use Rattle.trace_audit.proofs.StartLines.{start_tells}

pub started : (b new : BusValue) (readings : List ℕ) (e : JournalEntry) (node : NodeNo) (reading : ℕ)
    (r : Option TraceRule) (falling waiting telling : Bool) (journal : List JournalEntry) → IsReady b readings
    → SaysStart b readings e node reading
    → IsDesign b.run.design → (node_at b.state node.0).count ≤ ROUNDS → IsEntryIn b.run.design e
    → node.0 < length b.run.design.components
    → Happens b (Start node (Some reading)) new → is_early (Some reading) (alarm_at b.run b.state node.0) ≡ false
    → falling ≡ falls readings (read_at node.0 reading)
    → (IsTrue waiting ↔ HasDue b node.0 reading) → journal ≡ new.journal
    → ((before : List JournalEntry) (last : JournalEntry) → journal ≡ before ++ last ∷ []
    → IsTrue telling ↔ (last ≡ e))
    → r ≡ first_rule true falling None waiting telling → r ≡ broken b.run b.state readings e
started b new readings e node reading r falling waiting telling journal ready says rules few fits within happens late
    fall due is_new last is =
    let x = start_entry b.run b.state node (Some reading) (missing_link b.run b.state node.0) in
    late_breaks b.run b.state readings e (Start node (Some reading)) r falling waiting telling ready.going says.event
    says.fits happens.step.allowed
    (fall ∙ ap (falls readings) (sym says.reads))
    (says.early ∙ ap (λ o. cond o (Some rule.Alarm) None) late)
    (due_is b node.0 reading waiting due ∙ sym says.waits)
    (start_tells b.run b.state node (Some reading) e telling rules fits says.event within few
    (last b.journal x (is_new ∙ happens.journal)))
    is

-- if the run had no stop before
pub misses : (b new : BusValue) (node : NodeNo) (reading : Option ℕ) (why : Stop) → b.state.stop ≡ None
    → StoppedAtStart b node reading new why → MissesMessage b node reading new why
misses b new node reading why going (inl stood) = absurd (let both : Some why ≡ None = sym stood.0 ∙ going in cc)
misses b new node reading why going (inr missed) = missed
