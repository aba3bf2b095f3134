-- The least multiple: the shortest period of at most one hour that satisfies the bound and that every rate divides,
-- or a proof that there is none.
use Rattle.std.specs.Prelude.{◌≡◌, ℕ, ◌%◌, ◌≤◌, max, List, fold, All}
use Rattle.pals_base.specs.declared.period_bound_and_releases.Gamma.{Gamma}
use Rattle.pals_base.specs.PeriodBoundAndReleases.{least_period}
use Rattle.pals_base.specs.declared.limits.TheConstants.{HOUR}

-- the maximum rate, or 1 without rates
abbrev pub greatest_rate : List ℕ → ℕ
greatest_rate rates = fold max 1 rates

-- a period that satisfies the bound, and that every rate divides
pub record IsSuited (g : Gamma) (rates : List ℕ) (t : ℕ) : Type 0 where
  pub meets : least_period g (greatest_rate rates) ≤ t
  pub multiple : All (λ k. t % k ≡ 0) rates

-- such a period of at most one hour, and no shorter one exists
pub record IsLeastMultiple (g : Gamma) (rates : List ℕ) (t : ℕ) : Type 0 where
  pub suited : IsSuited g rates t
  pub within : t ≤ HOUR
  pub least : (s : ℕ) → IsSuited g rates s → t ≤ s

-- no period of at most one hour is suitable
abbrev pub HasNoMultiple : Gamma → List ℕ → Type 0
HasNoMultiple g rates = (t : ℕ) → t ≤ HOUR → ¬ IsSuited g rates t
