-- The journal entry of a design that a line denotes.
use Rattle.std.specs.Prelude.{ℕ, List, Option, option_map, option_and_then}
use Rattle.pals_base.specs.declared.basic_types.NodeNo.{NodeNo}
use Rattle.pals_base.specs.declared.basic_types.LinkNo.{LinkNo}
use Rattle.pals_model.specs.declared.design.DesignParts.{DesignParts}
use Rattle.pals_model.specs.ComponentAndLinkNames.{node_named, link_named}
use Rattle.pals_runs.specs.declared.journal.JournalEntry.{JournalEntry}
use Rattle.run_laws.specs.LineForms.{LineForm, ArriveLine, StartLine, StepLine, FinishLine, SendLine, DropLine}
use Rattle.run_laws.specs.LineForms.{RepeatLine}
use Rattle.run_laws.specs.LineForms.{EarlyLine, MissedLine, form_of}
use Rattle.pals_runs.specs.declared.journal.Stop.TheVariants as stop
use Rattle.pals_runs.specs.declared.journal.JournalEntry.TheVariants as entry

-- ---- entries
abbrev pub of_node : DesignParts → List ℕ → (NodeNo → JournalEntry) → Option JournalEntry
of_node design name go = option_map (λ n. go (record { 0 = n })) (node_named design name)

abbrev pub of_link : DesignParts → List ℕ → (LinkNo → JournalEntry) → Option JournalEntry
of_link design name go = option_map (λ n. go (record { 0 = n })) (link_named design name)

-- the entry that a form denotes, if its name belongs to the design
abbrev pub entry_of : DesignParts → LineForm → Option JournalEntry
entry_of design (ArriveLine name round reading result) =
    of_link design name (λ link. entry.Arrive link round reading result)
entry_of design (StartLine name round reading) = of_node design name (λ node. entry.Start node round reading)
entry_of design (StepLine name round step reading) = of_node design name (λ node. entry.Step node round step reading)
entry_of design (FinishLine name round) = of_node design name (λ node. entry.Finish node round)
entry_of design (SendLine name round reading) = of_node design name (λ node. entry.Send node round reading)
entry_of design (DropLine name round) = of_link design name (λ link. entry.Drop link round)
entry_of design (RepeatLine name round) = of_link design name (λ link. entry.Repeat link round)
entry_of design (EarlyLine name round reading) =
    of_link design name (λ link. entry.Stopped (stop.Early link round reading))
entry_of design (MissedLine name round reading cause) =
    of_link design name (λ link. entry.Stopped (stop.Missed link round reading cause))

abbrev pub entry_of_line : DesignParts → List ℕ → Option JournalEntry
entry_of_line design line = option_and_then (entry_of design) (form_of line)
