-- Why a world refuses an event.
use Rattle.std.specs.Prelude.{ℕ, ◌+◌, ◌-◌, nat_eq, nat_lt, nat_le, Bool, not, if◌then◌else◌, List, [], ◌∷◌, length, map}
use Rattle.std.specs.Prelude.{Option, Some, None}
use Rattle.std.specs.List.{enumerate_from}
use Rattle.std.specs.Option.{unwrap_or}
use Rattle.pals_base.specs.declared.basic_types.NodeNo.{NodeNo}
use Rattle.pals_base.specs.declared.basic_types.LinkNo.{LinkNo}
use Rattle.pals_base.specs.UpwardNumbers.{upwards}
use Rattle.pals_model.specs.declared.flight_copy.FlightCopy.{FlightCopy}
use Rattle.pals_runs.specs.declared.events_and_faults.Event.{Event}
use Rattle.pals_runs.specs.declared.events_and_faults.EventFault.{EventFault}
use Rattle.pals_runs.specs.declared.events_and_faults.EventSubject.{EventSubject}
use Rattle.bus_machine.specs.Plans.{plan_of}
use Rattle.bus_machine.specs.NodeEvents.{next_step}
use Rattle.bus_machine.specs.AlarmsAndReleases.{start_alarm, step_alarm, release_reading}
use Rattle.bus_machine.specs.BusStates.{node_at, flight_at}
use Rattle.bus_machine.specs.RunParameters.{Run}
use Rattle.bus_machine.specs.Machine.{BusEvent, Start, Step, Finish, Send, Arrive, is_allowed}
use Rattle.run_laws.specs.Worlds.{World, reading_at, since_at, flight_since}
use Rattle.run_laws.specs.Deadlines.{node_deadline, message_deadline}
use Rattle.pals_runs.specs.declared.events_and_faults.Event.TheVariants as event
use Rattle.pals_runs.specs.declared.events_and_faults.EventFault.TheVariants as fault
use Rattle.pals_runs.specs.declared.events_and_faults.EventSubject.TheVariants as which

-- ---- the first that fits
abbrev pub found_if : Bool → EventFault → Option EventFault
found_if b why = if b then Some why else None

abbrev pub or_else : Option EventFault → Option EventFault → Option EventFault
or_else None later = later
or_else (Some why) later = Some why

abbrev pub first_of : List (Option EventFault) → Option EventFault
first_of [] = None
first_of (o ∷ os) = or_else o (first_of os)

-- ---- names
abbrev pub has_node : Run → NodeNo → Bool
has_node run node = nat_lt node.0 (length run.design.components)

abbrev pub has_link : Run → LinkNo → Bool
has_link run link = nat_lt link.0 (length run.design.links)

abbrev pub is_named : Run → Event → Bool
is_named run (event.Pass time readings) = nat_eq (length readings) (length run.design.components)
is_named run (event.Start node) = has_node run node
is_named run (event.Step node) = has_node run node
is_named run (event.Finish node) = has_node run node
is_named run (event.Send node) = has_node run node
is_named run (event.Arrive link round) = has_link run link
is_named run (event.Drop link round) = has_link run link
is_named run (event.Repeat link round) = has_link run link

-- ---- a Pass
-- a reading, with its node
abbrev pub Reading : Type 0
Reading = ℕ × ℕ

abbrev pub apart : ℕ → ℕ → ℕ
apart a b = (a - b) + (b - a)

abbrev pub clock_back : World → Reading → Option EventFault
clock_back w at = found_if (nat_lt at.1 (reading_at w at.0)) (fault.ClockBack (record { 0 = at.0 }) at.1)

abbrev pub clock_apart : Run → ℕ → Reading → Option EventFault
clock_apart run time at =
    found_if (nat_le run.design.gamma.eps (apart at.1 time)) (fault.ClockApart (record { 0 = at.0 }) at.1)

-- the time is past the last time that a node or a message allows
abbrev pub past : ℕ → EventSubject → Option ℕ → Option EventFault
past time which None = None
past time which (Some last) = found_if (nat_lt last time) (fault.PastDeadline which last)

abbrev pub node_past : Run → World → ℕ → ℕ → Option EventFault
node_past run w time node = past time (which.Node (record { 0 = node })) (node_deadline run w node)

abbrev pub copy_past : Run → World → ℕ → ℕ → FlightCopy → Option EventFault
copy_past run w time link copy =
    past time (which.Message (record { 0 = link }) copy.round) (Some (message_deadline run w link copy.round))

abbrev pub link_past : Run → World → ℕ → ℕ → Option EventFault
link_past run w time link = first_of (map (copy_past run w time link) (flight_at w.bus link))

-- row by row, each row over all nodes; past deadlines over nodes and then over messages, link by link in order of
-- sending
abbrev pub pass_fault : Run → World → ℕ → List ℕ → Option EventFault
pass_fault run w time readings =
    let clocks = enumerate_from 0 readings in
    first_of (
    found_if (nat_lt time w.time) (fault.TimeBack time)
    ∷ first_of (map (clock_back w) clocks)
    ∷ first_of (map (clock_apart run time) clocks)
    ∷ first_of (map (node_past run w time) (upwards 0 (length run.design.components)))
    ∷ first_of (map (link_past run w time) (upwards 0 (length run.design.links)))
    ∷ []
    )

-- ---- events of nodes and links
abbrev pub wrong_phase : Run → World → NodeNo → BusEvent → Option EventFault
wrong_phase run w node e = found_if (not (is_allowed run w.bus e)) (fault.WrongPhase node)

abbrev pub no_message : Run → World → LinkNo → ℕ → Option EventFault
no_message run w link round =
    found_if (not (is_allowed run w.bus (Arrive link round None))) (fault.NoSuchMessage link round)

-- the reading is below this alarm
abbrev pub not_due : World → NodeNo → ℕ → Option EventFault
not_due w node alarm = found_if (nat_lt (reading_at w node.0) alarm) (fault.NotDue node alarm (reading_at w node.0))

abbrev pub too_soon : World → EventSubject → ℕ → Option EventFault
too_soon w which earliest = found_if (nat_lt w.time earliest) (fault.TooSoon which earliest)

abbrev pub event_fault : Run → World → Event → Option EventFault
event_fault run w (event.Pass time readings) = pass_fault run w time readings
event_fault run w (event.Start node) =
    or_else (wrong_phase run w node (Start node None))
    (not_due w node (start_alarm (plan_of run.design node.0) (node_at w.bus node.0)))
event_fault run w (event.Step node) =
    or_else (wrong_phase run w node (Step node None))
    (not_due w node (step_alarm (plan_of run.design node.0) (node_at w.bus node.0)
    (unwrap_or (next_step (node_at w.bus node.0).phase) 0)))
event_fault run w (event.Finish node) =
    or_else (wrong_phase run w node (Finish node))
    (too_soon w (which.Node node) (since_at w node.0 + run.design.gamma.alpha_min))
event_fault run w (event.Send node) =
    or_else (wrong_phase run w node (Send node None))
    (not_due w node (release_reading (plan_of run.design node.0) (node_at w.bus node.0)))
event_fault run w (event.Arrive link round) =
    or_else (no_message run w link round)
    (too_soon w (which.Message link round) (flight_since run w link.0 round + run.design.gamma.mu_min))
event_fault run w (event.Drop link round) = Some fault.LossOrRepeat
event_fault run w (event.Repeat link round) = Some fault.LossOrRepeat

-- the first row of the table that fits
abbrev pub fault_of : Run → World → Event → Option EventFault
fault_of run w e = if is_named run e then event_fault run w e else Some fault.BadName
