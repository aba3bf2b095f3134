-- The clocks that entries read.
use Rattle.std.specs.Prelude.{ℕ, Option, Some}
use Rattle.run_laws.specs.EntryEventsAndReadings.{Timed}
use Rattle.trace_audit.specs.declared.entry_clocks.ClockReading.{ClockReading}

abbrev pub timed_of : ClockReading → Timed
timed_of clock = record { node = clock.node; reading = clock.reading }

-- a node's clock shows this reading
abbrev pub read_at : ℕ → ℕ → Option Timed
read_at node reading = Some (record { node = node; reading = Some reading })
