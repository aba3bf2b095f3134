-- The times at which the messages of a round are sent and arrive, and at which rounds start. Times are global
-- nanoseconds; readings come from a node's clock.
use Rattle.std.specs.Prelude.{ℕ, ◌+◌, ◌-◌, ◌*◌, ◌<◌, ◌≤◌, max}
use Rattle.pals_base.specs.declared.period_bound_and_releases.Gamma.{Gamma}
use Rattle.pals_base.specs.PeriodBoundAndReleases.{step_period, sent_steps, release, alarm}

-- a clock deviates from the time by less than eps
pub record IsNear (g : Gamma) (time reading : ℕ) : Type 0 where
  pub slow : time < reading + g.eps
  pub fast : reading < time + g.eps

-- a node starts a round when its clock reads at least the alarm, and before any clock can be eps past it
pub record IsStarted (g : Gamma) (t round : ℕ) (time reading : ℕ) : Type 0 where
  pub clock : IsNear g time reading
  pub due : alarm t round ≤ reading
  pub prompt : time < alarm t round + g.eps

-- a node of rate k sends its message of a round: its clock reads at least the earliest send time, and it waits only
-- for the clock or for the last sent step, which starts in time and executes for at most alpha_max
pub record IsSent (g : Gamma) (t k round : ℕ) (finished time reading : ℕ) : Type 0 where
  pub clock : IsNear g time reading
  pub due : release g t k round ≤ reading
  pub executed : finished < alarm t round + (sent_steps g t k - 1) * step_period t k + g.eps + g.alpha_max
  pub prompt : time ≤ max finished (release g t k round + g.eps - 1)

-- a message arrives after a delay within the network bounds
pub record IsCarried (g : Gamma) (sent arrived : ℕ) : Type 0 where
  pub least : sent + g.mu_min ≤ arrived
  pub most : arrived ≤ sent + g.mu_max
