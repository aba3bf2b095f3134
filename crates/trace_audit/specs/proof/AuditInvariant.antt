-- What a replay keeps of an audit: the bus, the readings, and an owed stop.
use Rattle.std.specs.Prelude.{◌≡◌, ◌<◌, true, false, length, Option, option_map, IfSome}
use Rattle.pals_runs.specs.declared.journal.JournalEntry.{JournalEntry}
use Rattle.run_laws.specs.EntriesOfDesigns.{IsEntryIn}
use Rattle.run_laws.specs.EntryEventsAndReadings.{has_reading, timed}
use Rattle.run_laws.specs.TraceVerdicts.{Audit, audit_after}
use Rattle.trace_audit.specs.declared.entry_clocks.ClockReading.{ClockReading}
use Rattle.trace_audit.specs.declared.replay.Replay.{Replay}
use Rattle.trace_audit.specs.proof.EntryClocks.{timed_of}

abbrev pub audit_in : Replay → Audit
audit_in r = record { bus = r.bus.state; readings = r.readings.items; owed = r.owed }

-- the nodes have clocks of their own, each has a last reading, and the stop that must follow belongs to the design
pub record IsReplay (r : Replay) : Type 0 where
  pub loose : r.bus.meeting ≡ false
  pub count : length r.readings.items ≡ length r.bus.run.design.components
  pub owed : IfSome r.owed (IsEntryIn r.bus.run.design)

-- the clock that an entry reads, with its reading
pub record IsClockOf (r : Replay) (e : JournalEntry) (clock : Option ClockReading) : Type 0 where
  pub value : option_map timed_of clock ≡ timed r.bus.run.design e
  pub within : IfSome clock (λ clock. clock.node < length r.bus.run.design.components)
  pub reads : has_reading (timed r.bus.run.design e) ≡ true

-- a line that breaks no rule is done
pub record Follows (old : Replay) (e : JournalEntry) (new : Replay) : Type 0 where
  pub kept : IsReplay new
  pub run : new.bus.run ≡ old.bus.run
  pub state : audit_in new ≡ audit_after old.bus.run (audit_in old) e
