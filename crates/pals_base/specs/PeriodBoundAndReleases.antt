-- The period bound, which is the minimum period in which each message has time to arrive; and the alarm, the release
-- and the sent steps of a round. All numbers are nanoseconds.
use Rattle.std.specs.Prelude.{ℕ, ◌+◌, ◌-◌, ◌*◌, ◌/◌, min, max}
use Rattle.pals_base.specs.declared.period_bound_and_releases.Gamma.{Gamma}

-- how long a node delays its outputs, so that none arrives before its target's round begins; 0 if the network is slow
-- enough
abbrev pub backoff : Gamma → ℕ
backoff g = 2 * g.eps - g.mu_min

-- the time between consecutive steps at rate k
abbrev pub step_period : ℕ → ℕ → ℕ
step_period t k = t / k

-- how many of a component's k steps end early enough to be sent
abbrev pub sent_steps : Gamma → ℕ → ℕ → ℕ
sent_steps g t k = min k (1 + (t - g.mu_max - 2 * g.eps - g.alpha_max) / step_period t k)

-- how long after its alarm a component of rate k may send its outputs: the backoff, or later if the last sent step
-- starts later
abbrev pub release_offset : Gamma → ℕ → ℕ → ℕ
release_offset g t k = max (backoff g) ((sent_steps g t k - 1) * step_period t k)

-- the minimum period that the bounds allow, if k is the maximum rate
abbrev pub least_period : Gamma → ℕ → ℕ
least_period g k = max (g.mu_max + 2 * g.eps + max (backoff g) g.alpha_max) (k * g.alpha_max)

-- the alarm of a round: the local time at which the round starts
abbrev pub alarm : ℕ → ℕ → ℕ
alarm t round = (round + 1) * t

-- the earliest reading at which a component of rate k may send its outputs of a round
abbrev pub release : Gamma → ℕ → ℕ → ℕ → ℕ
release g t k round = alarm t round + release_offset g t k
