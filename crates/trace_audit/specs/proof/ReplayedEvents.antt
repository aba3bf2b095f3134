-- The events of entries, replayed on a bus without a stop.
use Rattle.std.specs.Prelude.{◌≡◌, ℕ, true, false, if◌then◌else◌, List, length, Some, None}
use Rattle.pals_base.specs.declared.basic_types.NodeNo.{NodeNo}
use Rattle.pals_runs.specs.declared.journal.JournalEntry.{JournalEntry}
use Rattle.bus_machine.specs.Machine.{BusEvent, Start}
use Rattle.run_laws.specs.EntryEventsAndReadings.{timed, event_of}
use Rattle.run_laws.specs.TraceRules.{alarm_at, fits, has_due, is_before, too_early, waits}
use Rattle.pals_bus.specs.BusValues.{BusValue, Happens}
use Rattle.trace_audit.specs.proof.EntryClocks.{read_at}
use Rattle.pals_runs.specs.declared.verdicts.TraceRule.TheVariants as rule

-- the nodes of a bus have clocks of their own, the run has no stop, and each node has a last reading
pub record IsReady (b : BusValue) (readings : List ℕ) : Type 0 where
  pub loose : b.meeting ≡ false
  pub going : b.state.stop ≡ None
  pub count : length readings ≡ length b.run.design.components

-- an entry is the start of a node's next round, or a message that the node missed there
pub record SaysStart (b : BusValue) (readings : List ℕ) (e : JournalEntry) (node : NodeNo) (reading : ℕ) : Type 0 where
  pub event : event_of b.run.design e ≡ Some (Start node (Some reading))
  pub fits : fits b.run b.state e ≡ true
  pub reads : timed b.run.design e ≡ read_at node.0 reading
  pub early : too_early b.run b.state e
      ≡ (if is_before (Some reading) (alarm_at b.run b.state node.0) then Some rule.Alarm else None)
  pub waits : waits b.run b.state e ≡ has_due b.run b.state node.0 (Some reading)

-- the event of an entry has happened
pub record IsReplayed (old : BusValue) (e : JournalEntry) (new : BusValue) : Type 0 where
  pub event : BusEvent
  pub is : event_of old.run.design e ≡ Some event
  pub happens : Happens old event new
