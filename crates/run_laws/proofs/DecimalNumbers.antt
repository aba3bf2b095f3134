-- Numbers in decimal, read again.
use Rattle.std.proofs.Common.{◌≡◌, ℕ, ◌+◌, ◌-◌, ◌*◌, ◌^◌, ◌<◌, ◌≤◌, nat_le, true, false, ◌&&◌, cond, List, [], ◌∷◌}
use Rattle.std.proofs.Common.{length, fold, Option, Some, None, refl, ap, ap₂, ◌∙◌, subst, arith}
use Rattle.std.specs.Prelude.{decimal, codes}
use Rattle.std.specs.Option.{option_map}
use Rattle.std.specs.List.{list_all}
use Rattle.std.specs.Str.Parse.{AllDigits}
use Rattle.std.proofs.lemmas.Fmt.{digits_value-decimal, decimal_is_IsNumeral}
use Rattle.std.proofs.lemmas.Str.Parse.{numerals_by_fold, tells_digits, digit_from_value}
use Rattle.std.proofs.lemmas.Bool.{le-leb}
use Rattle.pals_base.specs.declared.limits.TheConstants.{ROUNDS, READING}
use Rattle.pals_model.proofs.WordBytes.{same_bytes, other_bytes, is_inner, inner}
use Rattle.pals_runs.specs.JournalLines.{reading_word}
use Rattle.run_laws.specs.LineForms.{is, is_there, spelled, number_up_to, round_in, reading_in}
use Rattle.run_laws.specs.EntriesOfDesigns.{IsReading}
use Rattle.run_laws.proofs.PlainWords.{is_plain, there_cons}

-- ---- what digits spell
abbrev spelled_on : ℕ → List ℕ → ℕ
spelled_on n word = fold (λ m digit. m * 10 + (digit - 48)) n word

spelled_decimal : (n : ℕ) → n < 2 ^ 64 → spelled (decimal n) ≡ n
spelled_decimal n small =
    digits_value-decimal (numerals_by_fold (AllDigits 10) tells_digits spelled_on
    (record { empty = λ m. refl; more = λ m c cs k. refl })) n small

number_is : (most n : ℕ) → n ≤ most → n < 2 ^ 64 → number_up_to most (decimal n) ≡ Some n
number_is most n le small =
    let same = spelled_decimal n small in
    let here : is (decimal n) (decimal (spelled (decimal n))) ≡ true = ap (λ m. is (decimal n) (decimal m)) same
    ∙ same_bytes (decimal n) in
    let within : nat_le (spelled (decimal n)) most ≡ true = ap (λ m. nat_le m most) same ∙ le-leb n most le in
    ap₂ (λ a b. cond (a && b) (Some (spelled (decimal n))) None) here within ∙ ap Some same

pub round_is : (n : ℕ) → n ≤ ROUNDS → round_in (decimal n) ≡ Some n
round_is n le = number_is ROUNDS n le (omega arith)

-- ---- readings
no_underscore : (n : ℕ) → n < 2 ^ 64 → is (decimal n) (codes "_") ≡ false
no_underscore n small =
    other_bytes (decimal n) (codes "_")
    (λ same. let digits : AllDigits 10 (codes "_") = subst (AllDigits 10) same (decimal_is_IsNumeral n small).0.1 in
    absurd (omega (arith, digits.0)))

pub reading_is : (reading : Option ℕ) → IsReading reading → reading_in (reading_word reading) ≡ Some reading
reading_is None within = refl
reading_is (Some at) within =
    let small : at < 2 ^ 64 = omega (arith, within) in
    ap (λ b. cond b (Some None) (option_map (λ n. Some n) (number_up_to READING (decimal at)))) (no_underscore at small)
    ∙ ap (option_map (λ n. Some n)) (number_is READING at within small)

-- ---- they are plain words
digits_inner : (word : List ℕ) → AllDigits 10 word → list_all is_inner word ≡ true
digits_inner [] digits = refl
digits_inner (digit ∷ word) digits =
    let range = digit_from_value digit digits.0 in
    ap₂ (λ a b. a && b)
    (inner digit (λ same. let space : digit ≡ 32 = same in absurd (omega (arith, range)))
    (λ same. let feed : digit ≡ 10 = same in absurd (omega (arith, range))))
    (digits_inner word digits.1)

there_if : (word : List ℕ) → 0 < length word → is_there word ≡ true
there_if [] some = absurd (omega arith)
there_if (byte ∷ word) some = there_cons byte word

decimal_plain : (n : ℕ) → n < 2 ^ 64 → is_plain (decimal n) ≡ true
decimal_plain n small =
    let numeral = (decimal_is_IsNumeral n small).0 in
    ap₂ (λ a b. a && b) (digits_inner (decimal n) numeral.1) (there_if (decimal n) numeral.0)

pub round_plain : (round : ℕ) → round ≤ ROUNDS → is_plain (decimal round) ≡ true
round_plain round within = decimal_plain round (omega arith)

pub reading_plain : (reading : Option ℕ) → IsReading reading → is_plain (reading_word reading) ≡ true
reading_plain None within = refl
reading_plain (Some at) within = decimal_plain at (omega (arith, within))
