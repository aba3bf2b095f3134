-- The preconditions on bounds and rates that keep all numbers within 64 bits.
use Rattle.std.specs.Prelude.{ℕ, ◌≤◌}
use Rattle.pals_base.specs.declared.period_bound_and_releases.Gamma.{Gamma}
use Rattle.pals_base.specs.declared.limits.TheConstants.{HOUR, RATE}

-- no bound from which a period is computed exceeds one hour
pub record IsWithinHour (g : Gamma) : Type 0 where
  pub skew : g.eps ≤ HOUR
  pub execution : g.alpha_max ≤ HOUR
  pub network : g.mu_max ≤ HOUR

-- the number of steps of a component in a round
pub record IsRate (k : ℕ) : Type 0 where
  pub some_step : 1 ≤ k
  pub at_most : k ≤ RATE
