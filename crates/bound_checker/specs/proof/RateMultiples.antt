-- Multiples of several rates, up to an hour.
use Rattle.std.specs.Prelude.{◌≡◌, ℕ, ◌+◌, ◌%◌, ◌≤◌, List, All}
use Rattle.pals_base.specs.declared.limits.TheConstants.{HOUR}

-- up to one hour, the multiples of m are the common multiples of all rates
pub record HasMultiplesOf (rates : List ℕ) (m : ℕ) : Type 0 where
  pub some_time : 1 ≤ m
  pub at_most : m ≤ HOUR + 1
  pub from_all : (t : ℕ) → t ≤ HOUR → All (λ k. t % k ≡ 0) rates → t % m ≡ 0
  pub to_all : (t : ℕ) → t ≤ HOUR → t % m ≡ 0 → All (λ k. t % k ≡ 0) rates
