-- The alarm of a node's next round, and from which reading of its clock on it may start a step of the round in hand,
-- and send that round.
use Rattle.std.specs.Prelude.{ℕ, ◌+◌, ◌*◌}
use Rattle.pals_base.specs.PeriodBoundAndReleases.{alarm}
use Rattle.bus_machine.specs.declared.plan.Plan.{Plan}
use Rattle.bus_machine.specs.Nodes.{NodeState, round_of}

-- its next round
abbrev pub start_alarm : Plan → NodeState → ℕ
start_alarm plan n = alarm plan.period n.count

-- a step of the round in hand
abbrev pub step_alarm : Plan → NodeState → ℕ → ℕ
step_alarm plan n step = alarm plan.period (round_of n) + step * plan.step_period

-- the round in hand
abbrev pub release_reading : Plan → NodeState → ℕ
release_reading plan n = alarm plan.period (round_of n) + plan.release_offset
