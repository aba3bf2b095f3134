-- The entry that the line of a journal's entry denotes.
use Rattle.std.specs.Prelude.{◌≡◌, List, ℕ, Some}
use Rattle.pals_model.specs.declared.design.DesignParts.{DesignParts}
use Rattle.pals_model.specs.proof.CompositionLaws.TextLines.{IsLine}
use Rattle.pals_model.specs.DesignRules.{IsDesign}
use Rattle.pals_runs.specs.declared.journal.Stop.{Stop}
use Rattle.pals_runs.specs.declared.journal.JournalEntry.{JournalEntry}
use Rattle.pals_runs.specs.JournalLines.{node_word, link_word, entry_line}
use Rattle.run_laws.specs.EntriesOfDesigns.{IsEntryIn}
use Rattle.run_laws.specs.LineForms.{LineForm, ArriveLine, StartLine, StepLine, FinishLine, SendLine, DropLine}
use Rattle.run_laws.specs.LineForms.{RepeatLine}
use Rattle.run_laws.specs.LineForms.{EarlyLine, MissedLine, form_of}
use Rattle.run_laws.specs.EntriesInLines.{entry_of_line}
use Rattle.pals_runs.specs.declared.journal.Stop.TheVariants as stop
use Rattle.pals_runs.specs.declared.journal.JournalEntry.TheVariants as entry

-- ---- the form of an entry, with the name that its line has
abbrev pub stop_form : DesignParts → Stop → LineForm
stop_form design (stop.Missed link round reading cause) = MissedLine (link_word design link.0) round reading cause
stop_form design (stop.Early link round reading) = EarlyLine (link_word design link.0) round reading

abbrev pub entry_form : DesignParts → JournalEntry → LineForm
entry_form design (entry.Arrive link round reading result) = ArriveLine (link_word design link.0) round reading result
entry_form design (entry.Start node round reading) = StartLine (node_word design node.0) round reading
entry_form design (entry.Step node round step reading) = StepLine (node_word design node.0) round step reading
entry_form design (entry.Finish node round) = FinishLine (node_word design node.0) round
entry_form design (entry.Send node round reading) = SendLine (node_word design node.0) round reading
entry_form design (entry.Drop link round) = DropLine (link_word design link.0) round
entry_form design (entry.Repeat link round) = RepeatLine (link_word design link.0) round
entry_form design (entry.Stopped why) = stop_form design why

-- ---- the laws
-- of each entry of a design
abbrev pub OfEntries : (DesignParts → JournalEntry → Type 0) → Type 0
OfEntries P = (design : DesignParts) (e : JournalEntry) → IsDesign design → IsEntryIn design e → P design e

-- its line has no line feed inside
abbrev pub EntriesHaveLines : Type 0
EntriesHaveLines = OfEntries (λ design e. IsLine (entry_line design e))

-- and has its form
abbrev pub LinesHaveForms : Type 0
LinesHaveForms = OfEntries (λ design e. form_of (entry_line design e) ≡ Some (entry_form design e))

-- so reading its line gives the entry
abbrev pub LinesTellEntries : Type 0
LinesTellEntries = OfEntries (λ design e. entry_of_line design (entry_line design e) ≡ Some e)

-- and no other entry has that line
abbrev pub LinesDiffer : Type 0
LinesDiffer = OfEntries (λ design e.
    (other : JournalEntry) → IsEntryIn design other → entry_line design e ≡ entry_line design other → e ≡ other)

-- and each line that denotes an entry denotes an entry of the design
abbrev pub ToldAreIn : Type 0
ToldAreIn = (design : DesignParts) (line : List ℕ) (e : JournalEntry) → entry_of_line design line ≡ Some e
    → IsEntryIn design e

-- a line that denotes an entry of a design is that entry's line, byte by byte
abbrev pub ToldAreLines : Type 0
ToldAreLines =
    (design : DesignParts) (line : List ℕ) (e : JournalEntry) → entry_of_line design line ≡ Some e
    → line ≡ entry_line design e
