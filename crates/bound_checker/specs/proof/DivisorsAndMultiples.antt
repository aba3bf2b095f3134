-- Greatest common divisors and least common multiples of two numbers.
use Rattle.std.specs.Prelude.{ℕ, ◌*◌}
use Rattle.std.specs.Int.{◌∣◌}

-- d divides a and b, and each common divisor of n times a and n times b divides n times d; with n = 1: each common
-- divisor of a and b divides d
pub record IsGreatestCommonDivisor (a b d : ℕ) : Type 0 where
  pub left : d ∣ a
  pub right : d ∣ b
  pub greatest : (n m : ℕ) → m ∣ n * a → m ∣ n * b → m ∣ n * d

-- m is a multiple of a and b, and each multiple of both is a multiple of m
pub record IsLeastCommonMultiple (a b m : ℕ) : Type 0 where
  pub left : a ∣ m
  pub right : b ∣ m
  pub least : (t : ℕ) → a ∣ t → b ∣ t → m ∣ t
