-- Examples of targets: of a node with one step in a round, and of a node with four.
use Rattle.std.specs.Prelude.{◌≡◌, [], ◌∷◌}
use Rattle.pals_model.specs.proof.TwoCounters.{two_counters}
use Rattle.bus_machine.specs.declared.plan.Plan.{Plan}
use Rattle.bus_machine.specs.Plans.{plan_of}
use Rattle.bus_machine.specs.ActionsAndTargets.{targets}

-- a node of four steps in a round of 20 ms, three of which are sent 10 ms after the alarm
abbrev pub fast_plan : Plan
fast_plan =
    record (plan_of two_counters 0)
    { rate = 4; period = 20000000; step_period = 5000000; sent_steps = 3; release_offset = 10000000 }

pub record NodesHaveTargets : Type 0 where
  pub slow : targets (plan_of two_counters 0) 2 ≡ 9000000 ∷ 10000000 ∷ 18000000 ∷ 19000000 ∷ []
  pub fast : targets fast_plan 1 ≡ 20000000 ∷ 25000000 ∷ 30000000 ∷ 30000000 ∷ 35000000 ∷ []
