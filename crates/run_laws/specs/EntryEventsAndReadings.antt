-- The event that a journal entry is of, and its node and reading.
use Rattle.std.specs.Prelude.{ℕ, Option, Some, None, is_some, Bool, true}
use Rattle.pals_base.specs.declared.basic_types.LinkNo.{LinkNo}
use Rattle.pals_model.specs.declared.design.DesignParts.{DesignParts}
use Rattle.pals_runs.specs.declared.journal.Stop.{Stop}
use Rattle.pals_runs.specs.declared.journal.JournalEntry.{JournalEntry}
use Rattle.bus_machine.specs.Plans.{link_at}
use Rattle.bus_machine.specs.Machine.{BusEvent, Start, Step, Finish, Send, Arrive, Drop, Repeat}
use Rattle.pals_runs.specs.declared.journal.Stop.TheVariants as stop
use Rattle.pals_runs.specs.declared.journal.JournalEntry.TheVariants as entry

-- a reading of a node's clock; for an arrival and a stop the node is the target
pub record Timed : Type 0 where
  pub node : ℕ
  pub reading : Option ℕ

abbrev pub at_target : DesignParts → LinkNo → Option ℕ → Option Timed
at_target design link reading = Some (record { node = (link_at design link.0).target.0; reading = reading })

abbrev pub stop_timed : DesignParts → Stop → Option Timed
stop_timed design (stop.Missed link round reading cause) = at_target design link reading
stop_timed design (stop.Early link round reading) = at_target design link reading

abbrev pub timed : DesignParts → JournalEntry → Option Timed
timed design (entry.Arrive link round reading result) = at_target design link reading
timed design (entry.Start node round reading) = Some (record { node = node.0; reading = reading })
timed design (entry.Step node round step reading) = Some (record { node = node.0; reading = reading })
timed design (entry.Finish node round) = None
timed design (entry.Send node round reading) = Some (record { node = node.0; reading = reading })
timed design (entry.Drop link round) = None
timed design (entry.Repeat link round) = None
timed design (entry.Stopped why) = stop_timed design why

abbrev pub has_reading : Option Timed → Bool
has_reading None = true
has_reading (Some t) = is_some t.reading

-- the event of an entry: that of a missed stop is its target's start, and an early stop is its arrival's
abbrev pub stop_event : DesignParts → Stop → Option BusEvent
stop_event design (stop.Missed link round reading cause) = Some (Start (link_at design link.0).target reading)
stop_event design (stop.Early link round reading) = None

abbrev pub event_of : DesignParts → JournalEntry → Option BusEvent
event_of design (entry.Arrive link round reading result) = Some (Arrive link round reading)
event_of design (entry.Start node round reading) = Some (Start node reading)
event_of design (entry.Step node round step reading) = Some (Step node reading)
event_of design (entry.Finish node round) = Some (Finish node)
event_of design (entry.Send node round reading) = Some (Send node reading)
event_of design (entry.Drop link round) = Some (Drop link round)
event_of design (entry.Repeat link round) = Some (Repeat link round)
event_of design (entry.Stopped why) = stop_event design why
