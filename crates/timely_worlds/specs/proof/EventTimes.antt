-- The times of the events of a run, and when they meet the bounds of its design. All are nanoseconds.
use Rattle.std.specs.Prelude.{ℕ, ◌+◌, ◌-◌, ◌*◌, ◌<◌, ◌≤◌, max, length}
use Rattle.pals_base.specs.declared.period_bound_and_releases.Gamma.{Gamma}
use Rattle.pals_base.specs.PeriodBoundAndReleases.{alarm}
use Rattle.bus_machine.specs.declared.plan.Plan.{Plan}
use Rattle.bus_machine.specs.Plans.{plan_of, link_at}
use Rattle.bus_machine.specs.RunParameters.{Run}

-- when each node starts and finishes each step of each round and sends the round; and when the message of each round
-- of each link arrives
pub record EventTimes : Type 0 where
  -- by node, round and step
  pub starts : ℕ → ℕ → ℕ → ℕ
  pub finishes : ℕ → ℕ → ℕ → ℕ
  -- by node and round
  pub sends : ℕ → ℕ → ℕ
  -- by link and round
  pub arrives : ℕ → ℕ → ℕ

-- a step starts less than the skew after its alarm, and takes a time within the execution times
pub record StepMeetsBounds (g : Gamma) (plan : Plan) (times : EventTimes) (node round step : ℕ) : Type 0 where
  pub prompt : times.starts node round step < alarm plan.period round + step * plan.step_period + g.eps
  pub shortest : times.starts node round step + g.alpha_min ≤ times.finishes node round step
  pub longest : times.finishes node round step ≤ times.starts node round step + g.alpha_max

-- a round is sent once its last sent step is finished, or less than the skew after its release
abbrev pub last_send : Gamma → Plan → EventTimes → ℕ → ℕ → ℕ
last_send g plan times node round =
    max (times.finishes node round (plan.sent_steps - 1)) (alarm plan.period round + plan.release_offset + g.eps - 1)

-- a message takes a time within the network's
pub record MessageMeetsBounds (g : Gamma) (times : EventTimes) (source link round : ℕ) : Type 0 where
  pub shortest : times.sends source round + g.mu_min ≤ times.arrives link round
  pub longest : times.arrives link round ≤ times.sends source round + g.mu_max

-- ---- of a run
abbrev pub StepsMeetBounds : Run → EventTimes → Type 0
StepsMeetBounds run times =
    (node round step : ℕ) → node < length run.design.components → round < run.rounds
    → step < (plan_of run.design node).rate
    → StepMeetsBounds run.design.gamma (plan_of run.design node) times node round step

abbrev pub SendsMeetBounds : Run → EventTimes → Type 0
SendsMeetBounds run times =
    (node round : ℕ) → node < length run.design.components → round < run.rounds
    → times.sends node round ≤ last_send run.design.gamma (plan_of run.design node) times node round

abbrev pub MessagesMeetBounds : Run → EventTimes → Type 0
MessagesMeetBounds run times =
    (link round : ℕ) → link < length run.design.links → round < run.rounds
    → MessageMeetsBounds run.design.gamma times (link_at run.design link).source.0 link round

pub record MeetBounds (run : Run) (times : EventTimes) : Type 0 where
  pub steps : StepsMeetBounds run times
  pub sends : SendsMeetBounds run times
  pub messages : MessagesMeetBounds run times
