-- The laws of signs: the remainder has the sign of the dividend, and the modulus has the sign of the divisor.
use Rattle.std.proofs.Common.{◌≡◌, ◌≢◌, ◌∙◌, zero, suc, ◌<◌, ℤ, pos, negsuc, ◌+ℤ◌, ◌-ℤ◌, ◌*ℤ◌, ◌≤ℤ◌, refl, ap, arith}
use Rattle.std.specs.Prelude.{IsOkAnd, int_div, int_rem, unsigned_abs}
use Rattle.std.proofs.Math.Nat.{mod-le}
use Rattle.std.proofs.Math.IntN.{pred_ℤ, pred_ℤ-*ℤ}
use Rattle.std.proofs.lemmas.Int.{ints, quot-rem, rem_below}
use Rattle.pals_base.specs.Arithmetic.{with_sign_of, remainder_of, modulus_of}
use Rattle.pals_base.specs.proof.RemaindersAndModuli.{IsRemainder, IsModulus}

-- a divisor that is not 0
not_0 : (b : ℤ) → b ≢ pos 0 → 0 < unsigned_abs b
not_0 (pos zero) other = absurd (other refl)
not_0 (pos (suc n)) other = omega arith
not_0 (negsuc n) other = omega arith

int_rem-at_least_0 : (a b : ℤ) → pos 0 ≤ℤ a → pos 0 ≤ℤ int_rem a b
int_rem-at_least_0 (pos a) b sign = omega (arith, ints)
int_rem-at_least_0 (negsuc a) b sign = absurd (omega (arith, ints))

int_rem-at_most_0 : (a b : ℤ) → 0 < unsigned_abs b → a ≤ℤ pos 0 → int_rem a b ≤ℤ pos 0
int_rem-at_most_0 (pos a) b other sign = omega (arith, ints, mod-le a (unsigned_abs b))
int_rem-at_most_0 (negsuc a) b other sign = omega (arith, ints)

remainder : (a b : ℤ) → b ≢ pos 0 → IsRemainder a b (int_rem a b)
remainder a b other = record {
  division = quot-rem a b;
  magnitude = rem_below a b (not_0 b other);
  at_least_0 = int_rem-at_least_0 a b;
  at_most_0 = int_rem-at_most_0 a b (not_0 b other);
}

pub remainder_of-is : (a b : ℤ) → b ≢ pos 0 → IsOkAnd (remainder_of a b) (IsRemainder a b)
remainder_of-is a (pos zero) other = absurd (other refl)
remainder_of-is a (pos (suc n)) other = remainder a (pos (suc n)) other
remainder_of-is a (negsuc n) other = remainder a (negsuc n) other

regroup : (x b r : ℤ) → (x -ℤ b) +ℤ (r +ℤ b) ≡ x +ℤ r
regroup x b r = omega (arith, ints)

once_less : (q b r : ℤ) → pred_ℤ q *ℤ b +ℤ (r +ℤ b) ≡ q *ℤ b +ℤ r
once_less q b r = ap (λ x. x +ℤ (r +ℤ b)) (pred_ℤ-*ℤ q b) ∙ regroup (q *ℤ b) b r

moved : (a q b r : ℤ) → q *ℤ b +ℤ r ≡ a → unsigned_abs r < unsigned_abs b → IsModulus a b (with_sign_of b r)
moved a q (pos n) (pos zero) is below =
    record {
      division = (q, is);
      above_0 = λ _. (omega (arith, ints), omega (arith, ints));
      below_0 = λ h. absurd (omega (arith, ints));
    }
moved a q (negsuc n) (pos zero) is below =
    record {
      division = (q, is);
      above_0 = λ h. absurd (omega (arith, ints));
      below_0 = λ _. (omega (arith, ints), omega (arith, ints));
    }
moved a q (pos n) (pos (suc r)) is below =
    record {
      division = (q, is);
      above_0 = λ _. (omega (arith, ints), omega (arith, ints));
      below_0 = λ h. absurd (omega (arith, ints));
    }
moved a q (negsuc n) (negsuc r) is below =
    record {
      division = (q, is);
      above_0 = λ h. absurd (omega (arith, ints));
      below_0 = λ _. (omega (arith, ints), omega (arith, ints));
    }
moved a q (negsuc n) (pos (suc r)) is below = record {
  division = (pred_ℤ q, once_less q (negsuc n) (pos (suc r)) ∙ is);
  above_0 = λ h. absurd (omega (arith, ints));
  below_0 = λ _. (omega (arith, ints), omega (arith, ints));
}
moved a q (pos n) (negsuc r) is below = record {
  division = (pred_ℤ q, once_less q (pos n) (negsuc r) ∙ is);
  above_0 = λ _. (omega (arith, ints), omega (arith, ints));
  below_0 = λ h. absurd (omega (arith, ints));
}

modulus : (a b : ℤ) → b ≢ pos 0 → IsModulus a b (with_sign_of b (int_rem a b))
modulus a b other = moved a (int_div a b) b (int_rem a b) (quot-rem a b) (rem_below a b (not_0 b other))

pub modulus_of-is : (a b : ℤ) → b ≢ pos 0 → IsOkAnd (modulus_of a b) (IsModulus a b)
modulus_of-is a (pos zero) other = absurd (other refl)
modulus_of-is a (pos (suc n)) other = modulus a (pos (suc n)) other
modulus_of-is a (negsuc n) other = modulus a (negsuc n) other
