-- Which entries belong to a design: they name an existing node or link, with numbers within their limits.
use Rattle.std.specs.Prelude.{ℕ, ◌<◌, ◌≤◌, length, Option, None, IfSome}
use Rattle.pals_base.specs.declared.limits.TheConstants.{ROUNDS, READING}
use Rattle.pals_model.specs.declared.design.DesignParts.{DesignParts}
use Rattle.pals_runs.specs.declared.journal.Stop.{Stop}
use Rattle.pals_runs.specs.declared.journal.JournalEntry.{JournalEntry}
use Rattle.pals_runs.specs.declared.journal.Stop.TheVariants as stop
use Rattle.pals_runs.specs.declared.journal.JournalEntry.TheVariants as entry

-- an entry belongs to a design if it names an existing node or link and its numbers are within their limits
abbrev pub IsReading : Option ℕ → Type 0
IsReading reading = IfSome reading (λ at. at ≤ READING)

abbrev pub IsOfNode : DesignParts → ℕ → ℕ → Option ℕ → Type 0
IsOfNode design node round reading = (node < length design.components) × (round ≤ ROUNDS) × IsReading reading

abbrev pub IsOfLink : DesignParts → ℕ → ℕ → Option ℕ → Type 0
IsOfLink design link round reading = (link < length design.links) × (round ≤ ROUNDS) × IsReading reading

abbrev pub IsStopIn : DesignParts → Stop → Type 0
IsStopIn design (stop.Missed link round reading cause) = IsOfLink design link.0 round reading
IsStopIn design (stop.Early link round reading) = IsOfLink design link.0 round reading

abbrev pub IsEntryIn : DesignParts → JournalEntry → Type 0
IsEntryIn design (entry.Arrive link round reading result) = IsOfLink design link.0 round reading
IsEntryIn design (entry.Start node round reading) = IsOfNode design node.0 round reading
IsEntryIn design (entry.Step node round step reading) = IsOfNode design node.0 round reading × (step ≤ ROUNDS)
IsEntryIn design (entry.Finish node round) = IsOfNode design node.0 round None
IsEntryIn design (entry.Send node round reading) = IsOfNode design node.0 round reading
IsEntryIn design (entry.Drop link round) = IsOfLink design link.0 round None
IsEntryIn design (entry.Repeat link round) = IsOfLink design link.0 round None
IsEntryIn design (entry.Stopped why) = IsStopIn design why
