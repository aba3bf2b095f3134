-- The rules that a line of a trace's journal can break, in their order.
use Rattle.std.specs.Prelude.{ℕ, ◌+◌, nat_eq, nat_lt, nat_le, Bool, true, false, not, ◌&&◌, if◌then◌else◌, List, []}
use Rattle.std.specs.Prelude.{◌∷◌, Option, Some, None, is_some, is_none, bytes_eq, slice_index_or}
use Rattle.std.specs.List.{list_any}
use Rattle.std.specs.Option.{unwrap_or, option_map_or}
use Rattle.pals_model.specs.declared.design.DesignParts.{DesignParts}
use Rattle.pals_model.specs.declared.flight_copy.FlightCopy.{FlightCopy}
use Rattle.pals_model.specs.Flights.{oldest}
use Rattle.pals_model.specs.IncomingAndOutgoingLinks.{links_into}
use Rattle.pals_runs.specs.declared.journal.Arrived.{Arrived}
use Rattle.pals_runs.specs.declared.journal.Arrived.TheVariants.{Kept, Ignored, Early}
use Rattle.pals_runs.specs.declared.journal.Stop.{Stop}
use Rattle.pals_runs.specs.declared.journal.JournalEntry.{JournalEntry}
use Rattle.pals_runs.specs.declared.verdicts.TraceRule.{TraceRule}
use Rattle.pals_runs.specs.JournalLines.{entry_line}
use Rattle.bus_machine.specs.Plans.{plan_of, link_at}
use Rattle.bus_machine.specs.Nodes.{round_of}
use Rattle.bus_machine.specs.NodeEvents.{next_step}
use Rattle.bus_machine.specs.AlarmsAndReleases.{start_alarm, step_alarm, release_reading}
use Rattle.bus_machine.specs.BusStates.{BusState, node_at, flight_at}
use Rattle.bus_machine.specs.RunParameters.{Run}
use Rattle.bus_machine.specs.Machine.{BusEvent, is_allowed, arrival}
use Rattle.bus_machine.specs.Replay.{entries}
use Rattle.run_laws.specs.EntryEventsAndReadings.{Timed, timed, event_of}
use Rattle.pals_runs.specs.declared.journal.Stop.TheVariants as stop
use Rattle.pals_runs.specs.declared.journal.JournalEntry.TheVariants as entry
use Rattle.pals_runs.specs.declared.verdicts.TraceRule.TheVariants as rule

-- ---- order: violated if the machine does not allow the event, or if the entry has another round, step or result
abbrev pub same_result : Arrived → Arrived → Bool
same_result Kept Kept = true
same_result Ignored Ignored = true
same_result Early Early = true
same_result a b = false

-- a missed stop is at the start of the round after its message's
abbrev pub stop_fits : Run → BusState → Stop → Bool
stop_fits run s (stop.Missed link round reading cause) =
    nat_eq (round + 1) (node_at s (link_at run.design link.0).target.0).count
stop_fits run s (stop.Early link round reading) = true

-- the numbers and the result of an entry are the machine's; no run has a loss or a repeat
abbrev pub fits : Run → BusState → JournalEntry → Bool
fits run s (entry.Arrive link round reading result) = same_result result (arrival run s link round)
fits run s (entry.Start node round reading) = nat_eq round (node_at s node.0).count
fits run s (entry.Step node round step reading) =
    nat_eq round (round_of (node_at s node.0)) && nat_eq step (unwrap_or (next_step (node_at s node.0).phase) 0)
fits run s (entry.Finish node round) = nat_eq round (round_of (node_at s node.0))
fits run s (entry.Send node round reading) = nat_eq round (round_of (node_at s node.0))
fits run s (entry.Drop link round) = false
fits run s (entry.Repeat link round) = false
fits run s (entry.Stopped why) = stop_fits run s why

abbrev pub is_in_order : Run → BusState → JournalEntry → Bool
is_in_order run s e = is_none s.stop && option_map_or (is_allowed run s) (event_of run.design e) true && fits run s e

-- ---- reading: no less than an earlier one of the node
abbrev pub reading_of : Timed → ℕ
reading_of t = unwrap_or t.reading 0

abbrev pub falls : List ℕ → Option Timed → Bool
falls readings None = false
falls readings (Some t) = nat_lt (reading_of t) (slice_index_or readings t.node 0)

-- ---- alarm and release: the smallest reading of an entry
abbrev pub is_before : Option ℕ → ℕ → Bool
is_before reading alarm = nat_lt (unwrap_or reading 0) alarm

abbrev pub alarm_at : Run → BusState → ℕ → ℕ
alarm_at run s node = start_alarm (plan_of run.design node) (node_at s node)

abbrev pub stop_alarm : Run → BusState → Stop → Option TraceRule
stop_alarm run s (stop.Missed link round reading cause) =
    if is_before reading (alarm_at run s (link_at run.design link.0).target.0) then Some rule.Alarm else None
stop_alarm run s (stop.Early link round reading) = None

abbrev pub too_early : Run → BusState → JournalEntry → Option TraceRule
too_early run s (entry.Arrive link round reading result) = None
too_early run s (entry.Start node round reading) =
    if is_before reading (alarm_at run s node.0) then Some rule.Alarm else None
too_early run s (entry.Step node round step reading) =
    if is_before reading (step_alarm (plan_of run.design node.0) (node_at s node.0) step) then Some rule.Alarm else None
too_early run s (entry.Finish node round) = None
too_early run s (entry.Send node round reading) =
    if is_before reading (release_reading (plan_of run.design node.0) (node_at s node.0)) then Some rule.Release else
    None
too_early run s (entry.Drop link round) = None
too_early run s (entry.Repeat link round) = None
too_early run s (entry.Stopped why) = stop_alarm run s why

-- ---- due: a message arrives when it is due, and every due message arrives before its target starts
abbrev pub is_due : Option ℕ → FlightCopy → Bool
is_due reading copy = option_map_or (λ due. nat_le due (unwrap_or reading 0)) copy.due false

abbrev pub has_due : Run → BusState → ℕ → Option ℕ → Bool
has_due run s node reading =
    list_any (λ link. list_any (is_due reading) (flight_at s link)) (links_into run.design node)

abbrev pub stop_waits : Run → BusState → Stop → Bool
stop_waits run s (stop.Missed link round reading cause) = has_due run s (link_at run.design link.0).target.0 reading
stop_waits run s (stop.Early link round reading) = false

abbrev pub waits : Run → BusState → JournalEntry → Bool
waits run s (entry.Arrive link round reading result) =
    not (option_map_or (is_due reading) (oldest round (flight_at s link.0)) false)
waits run s (entry.Start node round reading) = has_due run s node.0 reading
waits run s (entry.Step node round step reading) = false
waits run s (entry.Finish node round) = false
waits run s (entry.Send node round reading) = false
waits run s (entry.Drop link round) = false
waits run s (entry.Repeat link round) = false
waits run s (entry.Stopped why) = stop_waits run s why

-- ---- stop: the line is the first line of its event; only the line of an early stop follows the line of its arrival
abbrev pub is_line_of : DesignParts → JournalEntry → Option JournalEntry → Bool
is_line_of design e None = false
is_line_of design e (Some other) = bytes_eq (entry_line design e) (entry_line design other)

abbrev pub first_entry : List JournalEntry → Option JournalEntry
first_entry [] = None
first_entry (e ∷ es) = Some e

abbrev pub tells_stop : Run → BusState → JournalEntry → Option BusEvent → Bool
tells_stop run s e None = false
tells_stop run s e (Some event) = is_line_of run.design e (first_entry (entries run s event))

-- ---- the first rule that an entry breaks
abbrev pub broken : Run → BusState → List ℕ → JournalEntry → Option TraceRule
broken run s readings e =
    if not (is_in_order run s e) then Some rule.Order
    else if falls readings (timed run.design e) then Some rule.Reading
    else if is_some (too_early run s e) then too_early run s e
    else if waits run s e then Some rule.Due
    else if not (tells_stop run s e (event_of run.design e)) then Some rule.Stop
    else None
