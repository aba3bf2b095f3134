-- The piece that a rule finds at the front of a text has at least one byte and ends within the text.
use Rattle.std.proofs.Common.{inl, inr, ◌≡◌, ℕ, ◌+◌, ◌<◌, ◌≤◌, Bool, true, false, cond, ◌&&◌, ◌||◌, List, [], ◌∷◌}
use Rattle.std.proofs.Common.{length, drop, take, get_or, arith, refl, sym, ap, Option, Some, None, nat_eq, nat_le}
use Rattle.std.proofs.Common.{nat_lt}
use Rattle.std.proofs.lemmas.Bool.{cases_Bool, or_cases}
use Rattle.std.proofs.lemmas.Bool.Decides.{nat_tests}
use Rattle.std.proofs.lemmas.List.{length-take, length-drop, get_or_past, length-take-le}
use Rattle.std.proofs.lemmas.List.Sums.{prefix_len-le-length}
use Rattle.std.proofs.lemmas.List.Folds.{length-prefix_len}
use Rattle.std.specs.Cmp.Lexicographic.{same_text}
use Rattle.std.specs.Prelude.{◌==◌, codes}
use Rattle.std.specs.List.{starts_with, list_any, list_all, prefix_len}
use Rattle.std.specs.Char.{is_ascii_digit, is_ascii_alphabetic}
use Rattle.std.specs.Cmp.{first_so, second_so}
use Rattle.aadl_lex.specs.declared.rules.First.{First}
use Rattle.aadl_lex.specs.declared.rules.Reading.{Reading}
use Rattle.aadl_lex.specs.declared.rules.Reading.TheVariants.{Outside, AfterName, Inside}
use Rattle.aadl_lex.specs.declared.token.TheConstants.{NAME_BYTES}
use Rattle.aadl_lex.specs.Rules.{run, is_in_line, is_in_word, is_in_string, is_blank, word_first, whole_len, decimal}
use Rattle.aadl_lex.specs.Rules.{most, whole_first, real_len, number_by, number_first, string_first, close_from}
use Rattle.aadl_lex.specs.Rules.{body_len, annex_by, annex_first, can_open, symbols_of_three, symbols_of_two}
use Rattle.aadl_lex.specs.Rules.{symbols_of_one, symbol_len, symbol_first, first, IsWithin}

begins_le : (s needle : List ℕ) → starts_with nat_eq s needle ≡ true → length needle ≤ length s
begins_le s needle h = let same = ap length (same_text needle (take (length needle) s) (sym h)) in
    omega (arith, length-take (length needle) s)

pub run_le : (p : ℕ → Bool) (s : List ℕ) → run p s ≤ length s
run_le p s = omega (arith, length-prefix_len p s, prefix_len-le-length p s)

pub run_some : (p : ℕ → Bool) (s : List ℕ) → 0 < length s → p (get_or s 0 0) ≡ true → 0 < run p s
run_some p [] some h = absurd (omega arith)
run_some p (c ∷ cs) some h = let len = length-prefix_len p (c ∷ cs) in
    let one : prefix_len p (c ∷ cs) ≡ 1 + prefix_len p cs = rw h refl in omega arith

more_le : (b : Bool) (n m : ℕ) → n ≤ m → cond b (1 + n) 0 ≤ 1 + m
more_le true n m h = omega arith
more_le false n m h = omega arith

pub whole_len_le : (s : List ℕ) → whole_len s ≤ length s
whole_len_le [] = omega arith
whole_len_le (c ∷ cs) =
    let rest = whole_len_le cs in
    let step =
    more_le (is_ascii_digit c || (c == 95 && is_ascii_digit (get_or cs 0 0))) (whole_len cs) (length cs) rest in
    omega arith

pub whole_len_some : (s : List ℕ) → 0 < length s → is_ascii_digit (get_or s 0 0) ≡ true → 0 < whole_len s
whole_len_some [] some h = absurd (omega arith)
whole_len_some (c ∷ cs) some h = rw h (omega arith)

pub close_le : (s : List ℕ) (i n : ℕ) → close_from i s ≡ Some n → n + 3 ≤ i + length s
close_le [] i n e = absurd cc
close_le (c ∷ cs) i n e =
    elim (cases_Bool (starts_with nat_eq (c ∷ cs) (codes "**}"))) as (λ r. n + 3 ≤ i + length (c ∷ cs)) [
      | inl here ↦
          let within = begins_le (c ∷ cs) (codes "**}") here in
          let same : Some i ≡ Some n = rw here at e in
          let at : i ≡ n = cc in
          omega arith
      | inr not_here ↦
          let later : close_from (i + 1) cs ≡ Some n = rw not_here at e in
          let rest = close_le cs (i + 1) n later in
          omega arith
    ]

pub body_le : (s : List ℕ) (n : ℕ) → 3 ≤ length s → body_len (drop 3 s) ≡ Some n → n + 6 ≤ length s
body_le s n some e = let rest = close_le (drop 3 s) 0 n e in omega (arith, length-drop 3 s)

any_le : (s : List ℕ) (n : ℕ) (symbols : List (List ℕ)) → list_all (λ x. length x == n) symbols ≡ true
    → list_any (starts_with nat_eq s) symbols ≡ true → n ≤ length s
any_le s n [] all h = absurd cc
any_le s n (x ∷ xs) all h =
    elim (or_cases (starts_with nat_eq s x) (list_any (starts_with nat_eq s) xs) h) as (λ r. n ≤ length s) [
      | inl holds ↦
          let within = begins_le s x holds in
          let len : (length x == n) ≡ true = first_so (length x == n) (list_all (λ y. length y == n) xs) all in
          grind (arith, nat_tests)
      | inr later ↦ any_le s n xs (second_so (length x == n) (list_all (λ y. length y == n) xs) all) later
    ]

comment_dash : (s : List ℕ) → 0 < length s → starts_with nat_eq s (codes "--") ≡ true → get_or s 0 0 ≡ 45
comment_dash [] some h = absurd (omega arith)
comment_dash (c ∷ cs) some h = let same = same_text (codes "--") (take 2 (c ∷ cs)) (sym h) in cc

if_within : (b : Bool) (len : ℕ) (x y : First) → (b ≡ true → IsWithin len x) → (b ≡ false → IsWithin len y)
    → IsWithin len (cond b x y)
if_within true len x y holds fails = holds refl
if_within false len x y holds fails = fails refl

symbol_le : (s : List ℕ) → 0 < length s → symbol_len s ≤ length s
symbol_le s some =
    elim (cases_Bool (list_any (starts_with nat_eq s) symbols_of_three)) as (λ r. symbol_len s ≤ length s) [
      | inl three ↦ rw three (any_le s 3 symbols_of_three refl three)
      | inr not_three ↦
          elim (cases_Bool (list_any (starts_with nat_eq s) symbols_of_two)) as (λ r. symbol_len s ≤ length s) [
            | inl two ↦ rw (not_three, two) (any_le s 2 symbols_of_two refl two)
            | inr not_two ↦
                elim (cases_Bool (list_any (λ c. c == get_or s 0 0) symbols_of_one)) as (λ r. symbol_len s ≤ length s) [
                  | inl one ↦ rw (not_three, not_two, one) some
                  | inr none ↦ rw (not_three, not_two, none) (omega arith)
                ]
          ]
    ]

pub symbol_within : (at : ℕ) (s : List ℕ) → 0 < length s → IsWithin (length s) (symbol_first at s)
symbol_within at s some =
    if_within (symbol_len s == 0) (length s) _ _ (λ _. tt) (λ h. (grind (arith, nat_tests), symbol_le s some))

word_within : (at : ℕ) (s : List ℕ) → 0 < length s → is_ascii_alphabetic (get_or s 0 0) ≡ true
    → IsWithin (length s) (word_first at s)
word_within at s some h =
    if_within (nat_le (run is_in_word s) NAME_BYTES) (length s) _ _
    (λ _. (run_some is_in_word s some (rw h refl), run_le is_in_word s)) (λ _. tt)

whole_within : (at : ℕ) (s : List ℕ) → 0 < length s → is_ascii_digit (get_or s 0 0) ≡ true
    → IsWithin (length s) (whole_first at (take (whole_len s) s))
whole_within at s some h =
    let len = length-take-le (whole_len s) s (whole_len_le s) in
    let one = whole_len_some s some h in
    let most_le = whole_len_le s in
    if_within (nat_le (decimal (take (whole_len s) s)) most) (length s) _ _ (λ _. (omega arith, omega arith)) (λ _. tt)

number_by_within : (at : ℕ) (s : List ℕ) (real : Option ℕ) → ((n : ℕ) → real ≡ Some n → (0 < n) × (n ≤ length s))
    → IsWithin (length s) (whole_first at (take (whole_len s) s)) → IsWithin (length s) (number_by at s real)
number_by_within at s (Some n) real whole = real n refl
number_by_within at s None real whole = whole

real_within : (s : List ℕ) (n : ℕ) → real_len s ≡ Some n → (0 < n) × (n ≤ length s)
real_within s n e =
    let whole = run is_ascii_digit s in
    let fraction = run is_ascii_digit (drop (whole + 1) s) in
    elim (cases_Bool (get_or s whole 0 == 46 && nat_lt 0 fraction)) as (λ r. (0 < n) × (n ≤ length s)) [
      | inl holds ↦
          let some : nat_lt 0 fraction ≡ true = second_so (get_or s whole 0 == 46) (nat_lt 0 fraction) holds in
          let positive : 0 < fraction = grind (arith, nat_tests) in
          let same : Some (whole + 1 + fraction) ≡ Some n = rw holds at e in
          let len : whole + 1 + fraction ≡ n = cc in
          let within = run_le is_ascii_digit (drop (whole + 1) s) in
          (omega arith, omega (arith, length-drop (whole + 1) s))
      | inr fails ↦ let none : ◌≡◌ {A = Option ℕ} None (Some n) = rw fails at e in absurd cc
    ]

number_within : (at : ℕ) (s : List ℕ) → 0 < length s → is_ascii_digit (get_or s 0 0) ≡ true
    → IsWithin (length s) (number_first at s)
number_within at s some h = number_by_within at s (real_len s) (real_within s) (whole_within at s some h)

string_within : (at : ℕ) (s : List ℕ) → IsWithin (length s) (string_first at s)
string_within at s =
    let inner = run is_in_string (drop 1 s) in
    if_within (get_or s (inner + 1) 0 == 34) (length s) _ _
    (λ h.
    let quote : get_or s (inner + 1) 0 ≡ 34 = grind (arith, nat_tests) in (
      omega arith,
      elim (cases_Bool (nat_le (length s) (inner + 1))) as (λ r. inner + 2 ≤ length s) [
        | inl past ↦
            let le : length s ≤ inner + 1 = grind (arith, nat_tests) in
            let zero_there = get_or_past s (inner + 1) 0 le in
            absurd (omega arith)
        | inr before ↦ grind (arith, nat_tests)
      ],
    ))
    (λ _. tt)

annex_by_within : (reading : Reading) (at len : ℕ) (body : Option ℕ) → ((n : ℕ) → body ≡ Some n → n + 6 ≤ len)
    → IsWithin len (annex_by reading at body)
annex_by_within reading at len None within = tt
annex_by_within AfterName at len (Some n) within = within n refl
annex_by_within Outside at len (Some n) within = let le = within n refl in (omega arith, le)
annex_by_within Inside at len (Some n) within = let le = within n refl in (omega arith, le)

pub annex_within : (reading : Reading) (at : ℕ) (s : List ℕ) → 3 ≤ length s
    → IsWithin (length s) (annex_first reading at s)
annex_within reading at s some = annex_by_within reading at (length s) (body_len (drop 3 s)) (λ n e. body_le s n some e)

pub first_within : (reading : Reading) (at : ℕ) (s : List ℕ) → 0 < length s → IsWithin (length s) (first reading at s)
unfolding first
first_within reading at s some =
    let len = length s in
    if_within (is_blank (get_or s 0 0)) len _ _ (λ _. (omega arith, some))
    (λ not_blank. if_within (starts_with nat_eq s (codes "--")) len _ _
    (λ comment. (run_some is_in_line s some (rw (comment_dash s some comment) refl), run_le is_in_line s))
    (λ not_comment. if_within (is_ascii_alphabetic (get_or s 0 0)) len _ _ (word_within at s some)
    (λ not_word. if_within (is_ascii_digit (get_or s 0 0)) len _ _ (number_within at s some)
    (λ not_number. if_within (get_or s 0 0 == 34) len _ _ (λ _. string_within at s)
    (λ not_string. if_within (starts_with nat_eq s (codes "{**") && can_open reading) len _ _
    (λ opens. annex_within reading at s
    (begins_le s (codes "{**") (first_so (starts_with nat_eq s (codes "{**")) (can_open reading) opens)))
    (λ closed. symbol_within at s some))))))
