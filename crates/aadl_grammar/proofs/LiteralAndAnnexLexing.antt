-- Numbers, strings and annexes, each lexed as its token.
use Rattle.std.proofs.Common.{◌≡◌, ℕ, suc, ◌+◌, ◌/◌, ◌%◌, ◌<◌, ◌≤◌, ◌^◌, Bool, true, false, cond, ◌&&◌, ◌||◌, ◌==◌, ◌∙◌}
use Rattle.std.proofs.Common.{sym, ap, subst, refl, List, [], ◌∷◌, ◌++◌, append_assoc, lt-ltb, length, length-append}
use Rattle.std.proofs.Common.{take, drop, get_or, arith, Some, None, nat_eq, nat_le, inl, inr}
use Rattle.std.specs.Prelude.{codes, pos, nat_lt}
use Rattle.std.specs.List.{list_all, starts_with}
use Rattle.std.specs.Char.{is_ascii_alphabetic, is_ascii_digit}
use Rattle.std.specs.Fmt as fmt
use Rattle.std.proofs.Math.Seq.{take-append_seam}
use Rattle.std.proofs.lemmas.Bool.{false_from_ne_true, not-true, or_parts, or_cases, and_from, le-leb, leb-true}
use Rattle.std.proofs.lemmas.Fmt.{decimal_by_steps}
use Rattle.std.specs.Cmp.{first_so, second_so}
use Rattle.aadl_lex.specs.declared.token.TokenKind.TheVariants.{Whole, Real, Quoted, Unread}
use Rattle.aadl_lex.specs.declared.fault.LexFault.TheVariants.{BigNumber}
use Rattle.aadl_lex.specs.declared.rules.First.{First}
use Rattle.aadl_lex.specs.declared.rules.First.TheVariants.{Taken, Body, Refused}
use Rattle.aadl_lex.specs.declared.rules.Reading.{Reading}
use Rattle.aadl_lex.specs.declared.rules.Reading.TheVariants.{Outside, AfterName}
use Rattle.aadl_lex.specs.Rules.{is_blank, is_in_string, run, whole_len, decimal, decimal_from, most, real_len}
use Rattle.aadl_lex.specs.Rules.{number_by, close_from, annex_by, first}
use Rattle.aadl_lex.specs.proof.TokenSpellings.{IsReal, IsString, IsUnread}
use Rattle.aadl_lex.proofs.AnnexEnds.{unread_ends}
use Rattle.aadl_lex.proofs.ByteScanLoops.{more_by, decimal_cons}
use Rattle.aadl_grammar.proofs.WordAndSymbolLexing.{stops, run_all, Visible, not_blank, not_comment, fourth}

pub at_seam : (w rest : List ℕ) → get_or (w ++ rest) (length w) 0 ≡ get_or rest 0 0
at_seam [] rest = refl
at_seam (c ∷ w) rest = at_seam w rest

past_seam : (w : List ℕ) (c : ℕ) (rest : List ℕ) → drop (length w + 1) (w ++ c ∷ rest) ≡ rest
past_seam [] c rest = refl
past_seam (d ∷ w) c rest = let e : suc (length w) + 1 ≡ suc (length w + 1) = omega arith in
    ap (λ n. drop n (d ∷ (w ++ c ∷ rest))) e ∙ past_seam w c rest

-- a digit begins a number
digit_goes : (r : Reading) (at c : ℕ) (s : List ℕ) (x : First) → is_ascii_digit c ≡ true → is_ascii_alphabetic c ≡ false
    → number_by at (c ∷ s) (real_len (c ∷ s)) ≡ x → first r at (c ∷ s) ≡ x
unfolding first
digit_goes r at c s x digit letter h =
    let v : Visible is_ascii_digit = record { space = refl; tab = refl; line = refl; return = refl; dash = refl } in
    fourth (is_blank c) (starts_with nat_eq (c ∷ s) (codes "--")) (is_ascii_alphabetic c) (is_ascii_digit c) _ _ _ _ _
    (not_blank is_ascii_digit c v digit) (not_comment is_ascii_digit c s v digit) letter digit
    ∙ h

digit_no_letter : (c : ℕ) → is_ascii_digit c ≡ true → is_ascii_alphabetic c ≡ false
digit_no_letter c d =
    let high : c ≤ 57 = leb-true c 57 (second_so (nat_le 48 c) _ d) in
    false_from_ne_true (is_ascii_alphabetic c) (λ e. elim (or_cases (nat_le 65 c && nat_le c 90) _ e) [
      | inl a ↦ (let l = leb-true 65 c (first_so (nat_le 65 c) _ a) in absurd (omega arith))
      | inr a ↦ (let l = leb-true 97 c (first_so (nat_le 97 c) _ a) in absurd (omega arith))
    ])

-- the bytes that continue a whole number
abbrev pub in_number : ℕ → Bool
in_number h = is_ascii_digit h || (h == 95 || h == 46)

no_fraction : (a b : Bool) (n : ℕ) → a ≡ false → cond (a && b) (Some n) None ≡ None
no_fraction false b n e = refl
no_fraction true b n e = absurd cc

stops_digit : (rest : List ℕ) → stops in_number rest ≡ true → stops is_ascii_digit rest ≡ true
stops_digit [] e = refl
stops_digit (h ∷ t) e = let f = or_parts (is_ascii_digit h) _ (not-true _ e) in let g = f.0 in rw g refl

no_point : (rest : List ℕ) → stops in_number rest ≡ true → (get_or rest 0 0 == 46) ≡ false
no_point [] e = refl
no_point (h ∷ t) e = (or_parts (h == 95) (h == 46) (or_parts (is_ascii_digit h) _ (not-true _ e)).1).1

not_real : (ds rest : List ℕ) → list_all is_ascii_digit ds ≡ true → stops in_number rest ≡ true
    → real_len (ds ++ rest) ≡ None
not_real ds rest all stop =
    let len = run_all is_ascii_digit ds rest all (stops_digit rest stop) in
    no_fraction (get_or (ds ++ rest) (run is_ascii_digit (ds ++ rest)) 0 == 46) _ _
    (ap (λ n. get_or (ds ++ rest) n 0 == 46) len ∙ ap (λ n. n == 46) (at_seam ds rest) ∙ no_point rest stop)

whole_stops : (rest : List ℕ) → stops in_number rest ≡ true → whole_len rest ≡ 0
whole_stops [] e = refl
whole_stops (h ∷ t) e =
    let f = or_parts (is_ascii_digit h) _ (not-true _ e) in
    let g = or_parts (h == 95) (h == 46) f.1 in
    let digit = f.0 in let low = g.0 in rw (digit, low) refl

whole_goes : (ds rest : List ℕ) → list_all is_ascii_digit ds ≡ true → stops in_number rest ≡ true
    → whole_len (ds ++ rest) ≡ length ds
whole_goes [] rest all stop = whole_stops rest stop
whole_goes (c ∷ ds) rest all stop =
    let digit = first_so (is_ascii_digit c) _ all in
    let more = whole_goes ds rest (second_so (is_ascii_digit c) _ all) stop in
    ap (λ b. cond (b || (c == 95 && is_ascii_digit (get_or (ds ++ rest) 0 0))) (1 + whole_len (ds ++ rest)) 0) digit
    ∙ omega arith

pub whole_first : (r : Reading) (at : ℕ) (ds rest : List ℕ) → 0 < length ds → list_all is_ascii_digit ds ≡ true
    → nat_le (decimal ds) most ≡ true → stops in_number rest ≡ true
    → first r at (ds ++ rest) ≡ Taken (Whole (pos (decimal ds))) (length ds)
whole_first r at [] rest some all fits stop = absurd (omega arith)
whole_first r at (c ∷ ds) rest some all fits stop =
    let digit = first_so (is_ascii_digit c) _ all in
    digit_goes r at c (ds ++ rest) _ digit (digit_no_letter c digit)
    (ap (number_by at (c ∷ ds ++ rest)) (not_real (c ∷ ds) rest all stop)
    ∙ ap (λ n. let t = take n (c ∷ ds ++ rest) in
    cond (nat_le (decimal t) most) (Taken (Whole (pos (decimal t))) (length t)) (Refused (BigNumber at)))
    (whole_goes (c ∷ ds) rest all stop)
    ∙ ap (λ t. cond (nat_le (decimal t) most) (Taken (Whole (pos (decimal t))) (length t)) (Refused (BigNumber at)))
    (take-append_seam (c ∷ ds) rest)
    ∙ ap (λ b. cond b (Taken (Whole (pos (decimal (c ∷ ds)))) (length (c ∷ ds))) (Refused (BigNumber at))) fits)

-- the digits spell the number
record Says (n : ℕ) (ds : List ℕ) : Type 0 where
  some : 0 < length ds
  digits : list_all is_ascii_digit ds ≡ true
  value : decimal ds ≡ n

decimal_snoc : (ds : List ℕ) (n d : ℕ)
    → decimal_from n (ds ++ d ∷ []) ≡ more_by (is_ascii_digit d) (decimal_from n ds) d
decimal_snoc [] n d = decimal_cons d n []
decimal_snoc (c ∷ ds) n d =
    decimal_cons c n (ds ++ d ∷ []) ∙ decimal_snoc ds (more_by (is_ascii_digit c) n c) d
    ∙ ap (λ m. more_by (is_ascii_digit d) m d) (sym (decimal_cons c n ds))

is_digit : (k : ℕ) → k < 10 → is_ascii_digit (48 + k) ≡ true
is_digit k h = and_from (nat_le 48 (48 + k)) _ (le-leb 48 (48 + k) (omega arith)) (le-leb (48 + k) 57 (omega arith))

all_snoc : (p : ℕ → Bool) (ds : List ℕ) (d : ℕ) → list_all p ds ≡ true → p d ≡ true → list_all p (ds ++ d ∷ []) ≡ true
all_snoc p [] d e h = and_from (p d) true h refl
all_snoc p (c ∷ ds) d e h = and_from (p c) _ (first_so (p c) _ e) (all_snoc p ds d (second_so (p c) _ e) h)

says_one : (n : ℕ) → n < 10 → Says n ((48 + n) ∷ [])
says_one n h = let d = is_digit n h in record {
  some = omega arith;
  digits = and_from (is_ascii_digit (48 + n)) true d refl;
  value = decimal_cons (48 + n) 0 [] ∙ ap (λ b. more_by b 0 (48 + n)) d ∙ omega arith;
}

says_more : (n : ℕ) (ds : List ℕ) → 10 ≤ n → Says (n / 10) ds → Says n (ds ++ ((48 + n % 10) ∷ []))
says_more n ds big h =
    let d = is_digit (n % 10) (omega arith) in
    record {
      some = simp length-append (omega arith);
      digits = all_snoc is_ascii_digit ds (48 + n % 10) h.digits d;
      value =
          decimal_snoc ds 0 (48 + n % 10) ∙ ap (λ b. more_by b (decimal ds) (48 + n % 10)) d
          ∙ (let v = h.value in omega arith);
    }

says : (n : ℕ) → n < 2 ^ 64 → Says n (fmt.decimal n)
says n h = decimal_by_steps Says says_one says_more n h

pub number_first : (r : Reading) (at n : ℕ) (rest : List ℕ) → n ≤ most → stops in_number rest ≡ true
    → first r at (fmt.decimal n ++ rest) ≡ Taken (Whole (pos n)) (length (fmt.decimal n))
number_first r at n rest fits stop =
    let s = says n (omega arith) in
    whole_first r at (fmt.decimal n) rest s.some s.digits (ap (λ m. nat_le m most) s.value ∙ le-leb n most fits) stop
    ∙ ap (λ m. Taken (Whole (pos m)) (length (fmt.decimal n))) s.value

pub number_some : (n : ℕ) → n ≤ most → 0 < length (fmt.decimal n)
number_some n fits = (says n (omega arith)).some

pub number_digits : (n : ℕ) → n ≤ most → list_all is_ascii_digit (fmt.decimal n) ≡ true
number_digits n fits = (says n (omega arith)).digits

with_fraction : (a : Bool) (m n k : ℕ) → a ≡ true → 0 < m → n ≡ k → cond (a && nat_lt 0 m) (Some n) None ≡ Some k
with_fraction true m n k e h f = ap (λ b. cond b (Some n) None) (lt-ltb 0 m h) ∙ ap Some f
with_fraction false m n k e h f = absurd cc

is_real : (w f rest : List ℕ) → 0 < length f → list_all is_ascii_digit w ≡ true → list_all is_ascii_digit f ≡ true
    → stops is_ascii_digit rest ≡ true
    → real_len ((w ++ 46 ∷ f) ++ rest) ≡ Some (length (w ++ 46 ∷ f))
is_real w f rest some all frac stop =
    let s = w ++ 46 ∷ (f ++ rest) in
    let len : run is_ascii_digit s ≡ length w = run_all is_ascii_digit w (46 ∷ (f ++ rest)) all refl in
    let fraction : run is_ascii_digit (drop (run is_ascii_digit s + 1) s) ≡ length f =
    ap (λ n. run is_ascii_digit (drop (n + 1) s)) len ∙ ap (run is_ascii_digit) (past_seam w 46 (f ++ rest))
    ∙ run_all is_ascii_digit f rest frac stop in
    let point : (get_or s (run is_ascii_digit s) 0 == 46) ≡ true = ap (λ n. get_or s n 0 == 46) len
    ∙ ap (λ n. n == 46) (at_seam w (46 ∷ (f ++ rest))) in
    let whole : length (w ++ 46 ∷ f) ≡ length w + suc (length f) = length-append w (46 ∷ f) in
    ap real_len (append_assoc w (46 ∷ f) rest)
    ∙ with_fraction (get_or s (run is_ascii_digit s) 0 == 46) (run is_ascii_digit (drop (run is_ascii_digit s + 1) s))
    (run is_ascii_digit s + 1 + run is_ascii_digit (drop (run is_ascii_digit s + 1) s)) (length (w ++ 46 ∷ f))
    point (omega arith) (omega arith)

first_digit : (w rest : List ℕ) (r : Reading) (at : ℕ) (x : First) → 0 < length w → list_all is_ascii_digit w ≡ true
    → number_by at (w ++ rest) (real_len (w ++ rest)) ≡ x → first r at (w ++ rest) ≡ x
first_digit [] rest r at x some all h = absurd (omega arith)
first_digit (c ∷ w) rest r at x some all h = let digit = first_so (is_ascii_digit c) _ all in
    digit_goes r at c (w ++ rest) x digit (digit_no_letter c digit) h

pub real_first : (r : Reading) (at : ℕ) (b rest : List ℕ) → IsReal b → stops is_ascii_digit rest ≡ true
    → first r at (b ++ rest) ≡ Taken Real (length b)
real_first r at b rest h stop =
    subst (λ (l : List ℕ). first r at (l ++ rest) ≡ Taken Real (length l)) (sym h.spelled)
    (ap (first r at) (append_assoc h.whole (46 ∷ h.fraction) rest)
    ∙ first_digit h.whole (46 ∷ (h.fraction ++ rest)) r at _ h.has_whole h.whole_digits
    (ap (λ (l : List ℕ). number_by at l (real_len l)) (sym (append_assoc h.whole (46 ∷ h.fraction) rest))
    ∙ ap (number_by at ((h.whole ++ 46 ∷ h.fraction) ++ rest))
    (is_real h.whole h.fraction rest h.has_fraction h.whole_digits h.fraction_digits stop)))

closed_string : (a : Bool) (x y : First) → a ≡ true → cond a x y ≡ x
closed_string true x y e = refl
closed_string false x y e = absurd cc

string_goes : (r : Reading) (at : ℕ) (inner rest : List ℕ) → list_all is_in_string inner ≡ true
    → first r at (34 ∷ (inner ++ 34 ∷ rest)) ≡ Taken Quoted (length inner + 2)
unfolding first
string_goes r at inner rest all =
    let len : run is_in_string (inner ++ 34 ∷ rest) ≡ length inner = run_all is_in_string inner (34 ∷ rest) all refl in
    let quote : (get_or (34 ∷ (inner ++ 34 ∷ rest)) (run is_in_string (inner ++ 34 ∷ rest) + 1) 0 == 34) ≡ true =
    ap (λ n. get_or (34 ∷ (inner ++ 34 ∷ rest)) n 0 == 34)
    (let e : run is_in_string (inner ++ 34 ∷ rest) + 1 ≡ suc (length inner) = omega arith in e)
    ∙ ap (λ n. n == 34) (at_seam inner (34 ∷ rest)) in
    closed_string (get_or (34 ∷ (inner ++ 34 ∷ rest)) (run is_in_string (inner ++ 34 ∷ rest) + 1) 0 == 34) _ _ quote
    ∙ ap (λ n. Taken Quoted (n + 2)) len

pub string_first : (r : Reading) (at : ℕ) (b rest : List ℕ) → IsString b
    → first r at (b ++ rest) ≡ Taken Quoted (length b)
string_first r at b rest h =
    subst (λ (l : List ℕ). first r at (l ++ rest) ≡ Taken Quoted (length l)) (sym h.spelled)
    (ap (λ (l : List ℕ). first r at (34 ∷ l)) (append_assoc h.inner (34 ∷ []) rest)
    ∙ string_goes r at h.inner rest h.line
    ∙ ap (Taken Quoted) (let e : length (h.inner ++ 34 ∷ []) ≡ length h.inner + 1 = length-append h.inner (34 ∷ []) in
    let g : length h.inner + 2 ≡ suc (length (h.inner ++ 34 ∷ [])) = omega arith in g))

unread_goes : (at n : ℕ) (s : List ℕ) → close_from 0 s ≡ Some n
    → first Outside at (123 ∷ 42 ∷ 42 ∷ s) ≡ Taken Unread (n + 6)
unfolding first
unread_goes at n s e = ap (annex_by Outside at) e

pub unread_first : (at : ℕ) (b rest : List ℕ) → IsUnread b → first Outside at (b ++ rest) ≡ Taken Unread (length b)
unread_first at b rest h =
    let size = length-append h.inner (codes "**}") in
    subst (λ (l : List ℕ). first Outside at (l ++ rest) ≡ Taken Unread (length l)) (sym h.spelled)
    (unread_goes at (length h.inner) ((h.inner ++ codes "**}") ++ rest) (unread_ends b rest h)
    ∙ ap (Taken Unread) (let g : length h.inner + 6 ≡ suc (suc (suc (length (h.inner ++ codes "**}")))) =
    omega arith in g))

pub body_first : (at n : ℕ) (s : List ℕ) → close_from 0 s ≡ Some n → first AfterName at (123 ∷ 42 ∷ 42 ∷ s) ≡ Body n
unfolding first
body_first at n s e = ap (annex_by AfterName at) e
