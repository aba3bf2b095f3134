-- Arithmetic on signed numbers of 64 bits: the exact result, or a trap.
use Rattle.std.specs.Prelude.{ℤ, pos, negsuc, zero, suc, neg_ℤ, ◌+ℤ◌, ◌-ℤ◌, ◌*ℤ◌, ◌-◌, ◌^◌, Bool, ◌&&◌, if◌then◌else◌}
use Rattle.std.specs.Prelude.{Result, Ok, Err, int_le, int_lt, int_div, int_rem}
use Rattle.pals_base.specs.declared.basic_types.Trap.{Trap}
use Rattle.pals_base.specs.declared.basic_types.Trap.TheVariants.{Overflow, ZeroDivisor}

-- a number from -2^63 to 2^63 - 1
abbrev pub fits : ℤ → Bool
fits x = int_le (negsuc (2 ^ 63 - 1)) x && int_le x (pos (2 ^ 63 - 1))

-- the exact result if it fits 64 bits
abbrev pub exactly : ℤ → Result ℤ Trap
exactly x = if fits x then Ok x else Err Overflow

-- a result if the divisor is not 0
abbrev pub divided_by : ℤ → Result ℤ Trap → Result ℤ Trap
divided_by (pos zero) result = Err ZeroDivisor
divided_by (pos (suc n)) result = result
divided_by (negsuc n) result = result

abbrev pub sum_of : ℤ → ℤ → Result ℤ Trap
sum_of a b = exactly (a +ℤ b)

abbrev pub difference_of : ℤ → ℤ → Result ℤ Trap
difference_of a b = exactly (a -ℤ b)

abbrev pub product_of : ℤ → ℤ → Result ℤ Trap
product_of a b = exactly (a *ℤ b)

-- the quotient, rounded towards zero
abbrev pub quotient_of : ℤ → ℤ → Result ℤ Trap
quotient_of a b = divided_by b (exactly (int_div a b))

-- the remainder of a, with a's sign; its magnitude is below b's, so it fits
abbrev pub remainder_of : ℤ → ℤ → Result ℤ Trap
remainder_of a b = divided_by b (Ok (int_rem a b))

-- the remainder r moved by b to b's sign
abbrev pub with_sign_of : ℤ → ℤ → ℤ
with_sign_of (pos n) (pos zero) = pos zero
with_sign_of b (pos zero) = pos zero
with_sign_of (pos n) (pos (suc r)) = pos (suc r)
with_sign_of (negsuc n) (negsuc r) = negsuc r
with_sign_of (negsuc n) (pos (suc r)) = pos (suc r) +ℤ negsuc n
with_sign_of (pos n) (negsuc r) = negsuc r +ℤ pos n

-- the modulus of a, with b's sign
abbrev pub modulus_of : ℤ → ℤ → Result ℤ Trap
modulus_of a b = divided_by b (Ok (with_sign_of b (int_rem a b)))

abbrev pub negation_of : ℤ → Result ℤ Trap
negation_of a = exactly (neg_ℤ a)

abbrev pub magnitude_of : ℤ → Result ℤ Trap
magnitude_of a = if int_lt a (pos 0) then exactly (neg_ℤ a) else exactly a
