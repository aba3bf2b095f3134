-- Worlds of the two counters: refused events, and two lists at the ends of the bounds.
use Rattle.std.specs.Prelude.{◌≡◌, ℕ, ◌+◌, codes, List, [], ◌∷◌, Option, Some, None}
use Rattle.pals_model.specs.proof.TwoCounters.{two_counters}
use Rattle.pals_model.specs.ComponentInputs.{no_env}
use Rattle.pals_runs.specs.declared.events_and_faults.Event.{Event}
use Rattle.pals_runs.specs.declared.events_and_faults.Event.TheVariants.{Pass, Start, Finish, Send, Arrive}
use Rattle.pals_runs.specs.declared.events_and_faults.EventFault.{EventFault}
use Rattle.bus_machine.specs.RunParameters.{Run}
use Rattle.run_laws.specs.Worlds.{World, world_run, opening_world, world_after}
use Rattle.run_laws.specs.EventFaults.{fault_of}
use Rattle.bus_machine.specs.WorldTexts.{world_lines}
use Rattle.bus_machine.specs.proof.StoppedCounterRuns.{a, b, to_a, to_b}
use Rattle.pals_runs.specs.declared.events_and_faults.EventFault.TheVariants as fault
use Rattle.pals_runs.specs.declared.events_and_faults.EventSubject.TheVariants as which

abbrev pub counters_world : ℕ → Run
counters_world rounds = world_run two_counters no_env rounds

-- the first fault of a list, and the event that has it
abbrev pub at_first : ℕ → Option EventFault → Option (ℕ × EventFault) → Option (ℕ × EventFault)
at_first index None later = later
at_first index (Some why) later = Some (index, why)

abbrev pub refused_from : ℕ → Run → World → List Event → Option (ℕ × EventFault)
refused_from index run w [] = None
refused_from index run w (e ∷ events) =
    at_first index (fault_of run w e) (refused_from (index + 1) run (world_after run w e) events)

abbrev pub refused : Run → List Event → Option (ℕ × EventFault)
refused run events = refused_from 0 run (opening_world run) events

-- ---- refused events
abbrev both : ℕ → Event
both at = Pass at (at ∷ at ∷ [])

pub record EventsAreRefused : Type 0 where
  pub late : refused (counters_world 1) (both 10000000 ∷ []) ≡ Some (0, fault.PastDeadline (which.Node a) 9999999)
  pub apart : refused (counters_world 1) (Pass 1000000 (0 ∷ 1000000 ∷ []) ∷ []) ≡ Some (0, fault.ClockApart a 0)
  pub early : refused (counters_world 1) (both 9000000 ∷ Start a ∷ Finish a ∷ Send a ∷ [])
      ≡ Some (3, fault.NotDue a 10000000 9000000)
  pub phase : refused (counters_world 1) (Finish b ∷ []) ≡ Some (0, fault.WrongPhase b)
  pub message : refused (counters_world 1) (Arrive to_b 0 ∷ []) ≡ Some (0, fault.NoSuchMessage to_b 0)

-- ---- the earliest sender and the latest receiver
abbrev pub earliest_sender : List Event
earliest_sender =
    Pass 8000001 (9000000 ∷ 7000002 ∷ []) ∷ Start a ∷ Finish a
    ∷ Pass 9000001 (10000000 ∷ 8000002 ∷ []) ∷ Send a
    ∷ Pass 9999999 (10999998 ∷ 9000000 ∷ []) ∷ Start b ∷ Finish b
    ∷ Pass 10000001 (11000000 ∷ 9000002 ∷ []) ∷ Arrive to_b 0
    ∷ Pass 10999999 (11000000 ∷ 10000000 ∷ []) ∷ Send b ∷ []

-- ---- the latest sender, with the longest execution and the longest delay, and the earliest next start
abbrev pub latest_sender : List Event
latest_sender =
    Pass 8000001 (7000002 ∷ 9000000 ∷ []) ∷ Start b ∷ Finish b
    ∷ Pass 9000001 (8000002 ∷ 10000000 ∷ []) ∷ Send b
    ∷ Pass 9999999 (9000000 ∷ 10999998 ∷ []) ∷ Start a
    ∷ Pass 12999999 (12000000 ∷ 13999998 ∷ []) ∷ Finish a ∷ Send a
    ∷ Arrive to_a 0 ∷ Pass 16999999 (16000000 ∷ 17999998 ∷ [])
    ∷ Arrive to_b 0 ∷ Pass 17000001 (16000002 ∷ 18000000 ∷ [])
    ∷ Start b ∷ Finish b ∷ []

-- a list within the bounds, and the text of the world after it
pub record Leaves (run : Run) (events : List Event) (lines : List (List ℕ)) : Type 0 where
  pub within : refused run events ≡ None
  pub lines_are : world_lines run.design run.env events ≡ lines

abbrev pub EarliestSender : Type 0
EarliestSender = Leaves (counters_world 1) earliest_sender
    (codes "round 0" ∷ codes "p.a s x=1" ∷ codes "p.b s x=1" ∷ codes "sent p.b.i 0 (1)" ∷ codes "sent p.a.i 0 (1)" ∷ [])

abbrev pub LatestSender : Type 0
LatestSender = Leaves (counters_world 2) latest_sender
    (codes "round 0" ∷ codes "p.a s x=1" ∷ codes "p.b s x=1" ∷ codes "round 1" ∷ codes "p.b s x=3"
    ∷ codes "sent p.a.i 0 (1)" ∷ codes "sent p.b.i 0 (1)" ∷ [])

-- a message that arrives less than the minimum delay after its send
abbrev pub too_soon_events : List Event
too_soon_events =
    Pass 8000001 (9000000 ∷ 7000002 ∷ []) ∷ Start a ∷ Finish a
    ∷ Pass 9000001 (10000000 ∷ 8000002 ∷ []) ∷ Send a
    ∷ Pass 9999999 (10999998 ∷ 9000000 ∷ []) ∷ Start b ∷ Arrive to_b 0 ∷ []

abbrev pub ArrivesTooSoon : Type 0
ArrivesTooSoon = refused (counters_world 1) too_soon_events ≡ Some (7, fault.TooSoon (which.Message to_b 0) 10000001)
