-- Two counters whose period is two nanoseconds below their least one, 9 ms, and a list of events within the bounds that
-- ends with an input that is missed.
use Rattle.std.specs.Prelude.{◌≡◌, ◌+◌, List, [], ◌∷◌, Some}
use Rattle.pals_base.specs.PeriodBoundAndReleases.{least_period}
use Rattle.pals_model.specs.declared.design.DesignParts.{DesignParts}
use Rattle.pals_model.specs.proof.TwoCounters.{two_counters}
use Rattle.pals_model.specs.ComponentInputs.{no_env}
use Rattle.pals_runs.specs.declared.events_and_faults.Event.{Event}
use Rattle.pals_runs.specs.declared.events_and_faults.Event.TheVariants.{Pass, Start, Finish, Send}
use Rattle.pals_runs.specs.declared.journal.Cause.TheVariants.{InTransit}
use Rattle.bus_machine.specs.RunParameters.{Run}
use Rattle.bus_machine.specs.proof.StoppedCounterRuns.{a, b, to_b}
use Rattle.run_laws.specs.Worlds.{world_run, opening_world}
use Rattle.run_laws.specs.EventLists.{IsWithin, world_left}
use Rattle.pals_runs.specs.declared.journal.Stop.TheVariants as stop

abbrev pub short_counters : DesignParts
short_counters = record two_counters { period = 8999998 }

abbrev pub short_run : Run
short_run = world_run short_counters no_env 2

-- the clock of the first counter is as slow as the skew allows, and that of the second as fast; a step and a message
-- take the longest time
abbrev pub late_message : List Event
late_message =
    Pass 9999997 (8999998 ∷ 10999996 ∷ []) ∷ Start a ∷ Start b
    ∷ Pass 12999997 (11999998 ∷ 13999996 ∷ []) ∷ Finish a ∷ Finish b ∷ Send a ∷ Send b
    ∷ Pass 16999997 (15999998 ∷ 17999996 ∷ []) ∷ Start b ∷ []

pub record ShortPeriodStops : Type 0 where
  pub two_less : short_counters.period + 2 ≡ least_period short_counters.gamma 1
  pub within : IsWithin short_run (opening_world short_run) late_message
  pub stop : (world_left short_run (opening_world short_run) late_message).bus.stop
      ≡ Some (stop.Missed to_b 0 (Some 17999996) InTransit)
