-- The fault of a passing of time after which a message in flight is past its deadline.
use Rattle.std.specs.Prelude.{ℕ, if◌then◌else◌, Option, Some, None}
use Rattle.pals_runs.specs.declared.events_and_faults.EventFault.{EventFault}
use Rattle.bus_machine.specs.LinkEvents.{is_in_flight}
use Rattle.bus_machine.specs.BusStates.{flight_at}
use Rattle.bus_machine.specs.RunParameters.{Run}
use Rattle.run_laws.specs.Worlds.{World}
use Rattle.run_laws.specs.Deadlines.{message_deadline}
use Rattle.run_laws.specs.EventFaults.{past}
use Rattle.pals_runs.specs.declared.events_and_faults.EventSubject.TheVariants as subject

-- it is in flight beyond its last allowed time
abbrev pub flying_past : Run → World → ℕ → ℕ → ℕ → Option EventFault
flying_past run w time link round =
    if is_in_flight round (flight_at w.bus link)
    then past time (subject.Message (record { 0 = link }) round) (Some (message_deadline run w link round))
    else None
