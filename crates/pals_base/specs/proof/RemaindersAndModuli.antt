-- The two remainders of a division, for operands of any sign.
use Rattle.std.specs.Prelude.{◌≡◌, ◌<◌, ℤ, pos, ◌+ℤ◌, ◌*ℤ◌, ◌≤ℤ◌, ◌<ℤ◌, int_div, unsigned_abs}

-- r is the remainder of a after subtraction of b times the quotient, rounded towards zero: its magnitude is below
-- b's, and it has a's sign
pub record IsRemainder (a b r : ℤ) : Type 0 where
  pub division : int_div a b *ℤ b +ℤ r ≡ a
  pub magnitude : unsigned_abs r < unsigned_abs b
  pub at_least_0 : pos 0 ≤ℤ a → pos 0 ≤ℤ r
  pub at_most_0 : a ≤ℤ pos 0 → r ≤ℤ pos 0

-- m differs from a by a multiple of b, and is between 0, included, and b, excluded
pub record IsModulus (a b m : ℤ) : Type 0 where
  pub division : (q : ℤ) × (q *ℤ b +ℤ m ≡ a)
  pub above_0 : pos 0 <ℤ b → (pos 0 ≤ℤ m) × (m <ℤ b)
  pub below_0 : b <ℤ pos 0 → (b <ℤ m) × (m ≤ℤ pos 0)
