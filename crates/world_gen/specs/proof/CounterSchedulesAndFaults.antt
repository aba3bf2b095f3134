-- Schedules of two counters: of one step a round, for two rounds, and of four steps a round, of which three are
-- sent; and the faults of events that leave the latter.
use Rattle.std.specs.Prelude.{◌≡◌, ℕ, List, [], ◌∷◌, ◌++◌, map, Some, None}
use Rattle.pals_model.specs.declared.design.Component.{Component}
use Rattle.pals_model.specs.declared.design.DesignParts.{DesignParts}
use Rattle.pals_model.specs.proof.TwoCounters.{two_counters}
use Rattle.pals_model.specs.ComponentInputs.{no_env}
use Rattle.pals_runs.specs.declared.events_and_faults.Event.{Event}
use Rattle.pals_runs.specs.declared.events_and_faults.Event.TheVariants.{Pass, Start, Step, Finish, Send, Arrive}
use Rattle.bus_machine.specs.RunParameters.{Run}
use Rattle.run_laws.specs.Worlds.{world_run}
use Rattle.bus_machine.specs.proof.StoppedCounterRuns.{a, b, to_a, to_b}
use Rattle.run_laws.specs.proof.TwoCounterWorlds.{counters_world, refused}
use Rattle.world_gen.specs.proof.Schedules.{schedule_at}
use Rattle.pals_runs.specs.declared.events_and_faults.EventFault.TheVariants as fault
use Rattle.pals_runs.specs.declared.events_and_faults.EventSubject.TheVariants as subject

abbrev both : ℕ → Event
both at = Pass at (at ∷ at ∷ [])

abbrev counter_moments : List ℕ
counter_moments = 9000000 ∷ 10000000 ∷ 11000000 ∷ 18000000 ∷ 19000000 ∷ 20000000 ∷ []

pub record CountersAreScheduled : Type 0 where
  pub events : schedule_at two_counters 2 counter_moments
      ≡ both 9000000 ∷ Start a ∷ Start b ∷ Finish a ∷ Finish b ∷ both 10000000 ∷ Send a ∷ Send b ∷ both 11000000
      ∷ Arrive to_a 0 ∷ Arrive to_b 0
      ∷ both 18000000 ∷ Start a ∷ Start b ∷ Finish a ∷ Finish b ∷ both 19000000 ∷ Send a ∷ Send b ∷ both 20000000
      ∷ Arrive to_a 1 ∷ Arrive to_b 1 ∷ []
  pub within : refused (counters_world 2) (schedule_at two_counters 2 counter_moments) ≡ None

-- ---- a period of 20 ms, and half a millisecond for a step at least
abbrev pub fast_counters : DesignParts
fast_counters = record two_counters {
  period = 20000000;
  gamma = record (two_counters.gamma) { alpha_min = 500000 };
  components = map (λ (c : Component). record c { rate = 4 }) two_counters.components;
}

abbrev fast_moments : List ℕ
fast_moments = 20000000 ∷ 20500000 ∷ 25000000 ∷ 25500000 ∷ 30000000 ∷ 30500000 ∷ 31500000 ∷ 35000000 ∷ 35500000 ∷ []

abbrev pub FastIsScheduled : Type 0
FastIsScheduled =
    schedule_at fast_counters 1 fast_moments
    ≡ both 20000000 ∷ Start a ∷ Start b ∷ both 20500000 ∷ Finish a ∷ Finish b ∷ both 25000000 ∷ Step a ∷ Step b
    ∷ both 25500000 ∷ Finish a ∷ Finish b
    ∷ both 30000000 ∷ Step a ∷ Step b ∷ both 30500000 ∷ Finish a ∷ Finish b ∷ Send a ∷ Send b ∷ both 31500000
    ∷ Arrive to_a 0 ∷ Arrive to_b 0
    ∷ both 35000000 ∷ Step a ∷ Step b ∷ both 35500000 ∷ Finish a ∷ Finish b ∷ []

-- ---- what a world of them refuses
abbrev pub fast_world : Run
fast_world = world_run fast_counters no_env 1

-- both nodes have finished their first step
abbrev first_steps : List Event
first_steps = both 20000000 ∷ Start a ∷ Start b ∷ both 20500000 ∷ Finish a ∷ Finish b ∷ []

-- and their third, which takes the longest time
abbrev third_steps : List Event
third_steps =
    first_steps ++ both 25000000 ∷ Step a ∷ Step b ∷ both 25500000 ∷ Finish a ∷ Finish b ∷ both 30000000
    ∷ Step a ∷ Step b
    ∷ both 33000000 ∷ Finish a ∷ Finish b ∷ []

pub record FastFaults : Type 0 where
  -- a step that is out, and one that is not due
  pub runs : refused fast_world (both 20000000 ∷ Start a ∷ Step a ∷ []) ≡ Some (2, fault.WrongPhase a)
  pub early : refused fast_world (first_steps ++ both 24999999 ∷ Step a ∷ [])
      ≡ Some (7, fault.NotDue a 25000000 24999999)
  -- a step that is late, and one that takes too little or too much
  pub late : refused fast_world (first_steps ++ both 26000000 ∷ [])
      ≡ Some (6, fault.PastDeadline (subject.Node a) 25999999)
  pub short : refused fast_world (both 20000000 ∷ Start a ∷ both 20499999 ∷ Finish a ∷ [])
      ≡ Some (3, fault.TooSoon (subject.Node a) 20500000)
  pub long : refused fast_world (both 20000000 ∷ Start a ∷ both 23000001 ∷ [])
      ≡ Some (2, fault.PastDeadline (subject.Node a) 23000000)
  -- two steps are too few for a send; a late send, though before its next step is due
  pub few : refused fast_world (first_steps ++ Send a ∷ []) ≡ Some (6, fault.WrongPhase a)
  pub unsent : refused fast_world (third_steps ++ both 33000001 ∷ [])
      ≡ Some (18, fault.PastDeadline (subject.Node a) 33000000)
  -- a message that arrives too soon, and one that does not arrive
  pub soon : refused fast_world (third_steps ++ Send a ∷ Send b ∷ both 33999999 ∷ Arrive to_b 0 ∷ [])
      ≡ Some (21, fault.TooSoon (subject.Message to_b 0) 34000000)
  pub lost : refused fast_world (third_steps ++ Send a ∷ Send b ∷ both 35000000 ∷ Step a ∷ Step b ∷ both 37000001 ∷ [])
      ≡ Some (23, fault.PastDeadline (subject.Message to_a 0) 37000000)
  -- the schedule
  pub within : refused fast_world (schedule_at fast_counters 1 fast_moments) ≡ None
