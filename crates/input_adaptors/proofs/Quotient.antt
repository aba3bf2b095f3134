-- For `quotient`: a quotient is rounded towards zero, and the mean of 64-bit numbers fits 64 bits.
use Rattle.std.proofs.Common.{◌≡◌, ◌∙◌, ap, ℕ, suc, ◌<◌, ◌≤◌, ◌*◌, ◌/◌, ◌^◌, ◌-◌, ℤ, pos, negsuc, neg_ℤ, ◌*ℤ◌, ◌≤ℤ◌}
use Rattle.std.proofs.Common.{arith}
use Rattle.std.specs.Int.RustNames.{int_div}
use Rattle.std.proofs.lemmas.Int.{ints, to_z-of_z, to_z_pos}
use Rattle.std.proofs.lemmas.Nat.{div_below, le-div}
use mir.Syntax.{w64, w128}
use lib.Signed.{mag}
use mir.Val.{SFits, to_z, of_z}

-- ---- quotients towards zero
pub quotient_above : (low sum : ℤ) (n : ℕ) → 0 < n → (low *ℤ pos n) ≤ℤ sum → low ≤ℤ int_div sum (pos n)
quotient_above (pos l) (pos a) n some above = let e : l ≤ a / n = le-div l a n some (omega (arith, ints)) in
    omega (arith, ints)
quotient_above (pos l) (negsuc a) n some above = absurd (omega (arith, ints))
quotient_above (negsuc l) (pos a) n some above = omega (arith, ints)
quotient_above (negsuc l) (negsuc a) n some above =
    let e : suc a / n < suc (suc l) = div_below (suc a) n (suc (suc l)) some (omega (arith, ints)) in
    omega (arith, ints)

pub quotient_below : (high sum : ℤ) (n : ℕ) → 0 < n → sum ≤ℤ (high *ℤ pos n) → int_div sum (pos n) ≤ℤ high
quotient_below (pos h) (pos a) n some below = let e : a / n < suc h =
    div_below a n (suc h) some (omega (arith, ints)) in omega (arith, ints)
quotient_below (negsuc h) (pos a) n some below = absurd (omega (arith, ints))
quotient_below (pos h) (negsuc a) n some below = omega (arith, ints)
quotient_below (negsuc h) (negsuc a) n some below = let e : suc h ≤ suc a / n =
    le-div (suc h) (suc a) n some (omega (arith, ints)) in omega (arith, ints)

-- ---- in 64 bits
mag_within : (z : ℤ) → negsuc (2 ^ 63 - 1) ≤ℤ z → z ≤ℤ pos (2 ^ 63 - 1) → mag z < 2 ^ 63
mag_within (pos n) low high = omega (arith, ints)
mag_within (negsuc n) low high = omega (arith, ints)

pub quotient_is : (sum : ℤ) (n : ℕ) → 0 < n → n < 2 ^ 64 → SFits w128 sum → neg_ℤ (pos (2 ^ 63 * n)) ≤ℤ sum
    → sum ≤ℤ pos ((2 ^ 63 - 1) * n)
    → to_z w64 (of_z w64 (to_z w128 (of_z w128 (int_div (to_z w128 (of_z w128 sum)) (to_z w128 n)))))
    ≡ int_div sum (pos n)
quotient_is sum n some few fits low high =
    let least : negsuc (2 ^ 63 - 1) ≤ℤ int_div sum (pos n) = quotient_above (negsuc (2 ^ 63 - 1)) sum n some low in
    let greatest : int_div sum (pos n) ≤ℤ pos (2 ^ 63 - 1) = quotient_below (pos (2 ^ 63 - 1)) sum n some high in
    let small : mag (int_div sum (pos n)) < 2 ^ 63 = mag_within (int_div sum (pos n)) least greatest in
    ap (λ s. to_z w64 (of_z w64 (to_z w128 (of_z w128 (int_div s (to_z w128 n)))))) (to_z-of_z w128 sum fits)
    ∙ ap (λ d. to_z w64 (of_z w64 (to_z w128 (of_z w128 (int_div sum d))))) (to_z_pos w128 n (omega arith))
    ∙ ap (λ q. to_z w64 (of_z w64 q)) (to_z-of_z w128 (int_div sum (pos n)) (record { sfits = omega arith }))
    ∙ to_z-of_z w64 (int_div sum (pos n)) (record { sfits = small })
