-- Two runs of the design of two counters: one with a meeting, which is done, and one with lists, of which the first
-- is too short.
use Rattle.std.specs.Prelude.{◌≡◌, ℕ, List, [], ◌∷◌, map, Some}
use Rattle.pals_clock.specs.ClockStates.{ClockState}
use Rattle.pals_model.specs.declared.design.Link.{Link}
use Rattle.pals_model.specs.proof.TwoCounters.{two_counters}
use Rattle.pals_model.specs.ComponentInputs.{no_env}
use Rattle.pals_runs.specs.declared.journal.Cause.TheVariants.{NotSent}
use Rattle.pals_runs.specs.declared.journal.JournalEntry.{JournalEntry}
use Rattle.bus_machine.specs.BusStates.{BusState}
use Rattle.bus_machine.specs.RunParameters.{Run}
use Rattle.bus_machine.specs.proof.StoppedCounterRuns.{to_b}
use Rattle.pals_clock.specs.declared.clock.Clocks.TheVariants.{Meet, Lists}
use Rattle.run_laws.specs.Runs.{Runs}
use Rattle.run_laws.specs.Meetings.{AllDone}
use Rattle.pals_runs.specs.declared.journal.Stop.TheVariants as stop

abbrev pub counters_for : ℕ → Run
counters_for rounds = record {
  design = two_counters;
  env = no_env;
  rounds = rounds;
  delays = record { lists = map (λ (_ : Link). 1000000 ∷ []) two_counters.links };
}

-- some run with a meeting is done
abbrev pub SomeMeetingEnds : Type 0
SomeMeetingEnds =
    (journal : List JournalEntry) × (s : BusState) × Runs (counters_for 1) Meet journal s × AllDone (counters_for 1) s

-- some run whose first list ends before its send stops where the second counter misses its message
abbrev pub SomeListEnds : Type 0
SomeListEnds =
    (clocks : List ClockState) × (journal : List JournalEntry) × (s : BusState)
    × Runs (counters_for 2) (Lists clocks) journal s
    × (s.stop ≡ Some (stop.Missed to_b 0 (Some 18000000) NotSent))
