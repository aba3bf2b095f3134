-- The stop that the line after an entry must state, if there is one.
use Rattle.std.specs.Prelude.{Option, None, option_map}
use Rattle.pals_runs.specs.declared.journal.Stop.{Stop}
use Rattle.pals_runs.specs.declared.journal.JournalEntry.{JournalEntry}
use Rattle.bus_machine.specs.Machine.{early_stop}
use Rattle.pals_runs.specs.declared.journal.JournalEntry.TheVariants as entry

abbrev pub stop_of : Option Stop → Option JournalEntry
stop_of why = option_map (λ w. entry.Stopped w) why

abbrev pub owed_by : JournalEntry → Option JournalEntry
owed_by (entry.Arrive link round reading outcome) = stop_of (early_stop link round reading outcome)
owed_by (entry.Start node round reading) = None
owed_by (entry.Step node round step reading) = None
owed_by (entry.Finish node round) = None
owed_by (entry.Send node round reading) = None
owed_by (entry.Drop link round) = None
owed_by (entry.Repeat link round) = None
owed_by (entry.Stopped why) = None
