-- Natural numbers and integers are read back from their decimal digits.
use Rattle.std.proofs.Common.{◌≡◌, ℕ, suc, ◌+◌, ◌-◌, ◌*◌, ◌^◌, ◌<◌, ◌≤◌, nat_eq, nat_le, Bool, true, false, ℤ, pos}
use Rattle.std.proofs.Common.{negsuc, List, [], ◌∷◌, length, fold, refl, ap, ◌∙◌, arith, ne_eqb}
use Rattle.std.specs.Prelude.{decimal, IsTrue}
use Rattle.std.specs.Fmt.{signed_decimal}
use Rattle.std.specs.Str.Parse.{AllDigits}
use Rattle.std.proofs.lemmas.Bool.{and_parts, leb-true}
use Rattle.std.proofs.lemmas.Fmt.{digits_value-decimal, decimal_is_IsNumeral}
use Rattle.std.proofs.lemmas.Str.Parse.{numerals_by_fold, tells_digits, digit_from_value}
use Rattle.pals_base.specs.Arithmetic.{fits}

-- ---- natural numbers
-- the number of digits after others
abbrev spelled_on : ℕ → List ℕ → ℕ
spelled_on n word = fold (λ m digit. m * 10 + (digit - 48)) n word

abbrev pub spelled : List ℕ → ℕ
spelled word = spelled_on 0 word

pub spelled_is : (n : ℕ) → n < 2 ^ 64 → spelled (decimal n) ≡ n
spelled_is n small =
    digits_value-decimal (numerals_by_fold (AllDigits 10) tells_digits spelled_on
    (record { empty = λ m. refl; more = λ m c cs k. refl })) n small

-- ---- integers
abbrev signed_by : Bool → ℕ → List ℕ → ℤ
signed_by true byte word = negsuc (spelled word - 1)
signed_by false byte word = pos (spelled (byte ∷ word))

-- a negative number begins with `-`
abbrev pub signed_spelled : List ℕ → ℤ
signed_spelled [] = pos 0
signed_spelled (byte ∷ word) = signed_by (nat_eq byte 45) byte word

by_digits : (word : List ℕ) (n : ℕ) → 0 < length word → AllDigits 10 word → spelled word ≡ n
    → signed_spelled word ≡ pos n
by_digits [] n some digits is = absurd (omega arith)
by_digits (byte ∷ word) n some digits is =
    let range = digit_from_value byte digits.0 in
    ap (λ b. signed_by b byte word) (ne_eqb byte 45 (λ same. absurd (omega (arith, range, same)))) ∙ ap pos is

pub signed_is : (z : ℤ) → IsTrue (fits z) → signed_spelled (signed_decimal z) ≡ z
signed_is (pos n) within =
    let below : n ≤ 2 ^ 63 - 1 = leb-true n (2 ^ 63 - 1) within in
    let small : n < 2 ^ 64 = omega arith in
    let numeral = (decimal_is_IsNumeral n small).0 in
    by_digits (decimal n) n numeral.0 numeral.1 (spelled_is n small)
signed_is (negsuc n) within =
    let below : n ≤ 2 ^ 63 - 1 = leb-true n (2 ^ 63 - 1) (and_parts (nat_le n (2 ^ 63 - 1)) true within).0 in
    let same : suc n - 1 ≡ n = omega arith in
    ap (λ k. negsuc (k - 1)) (spelled_is (suc n) (omega arith)) ∙ ap negsuc same
