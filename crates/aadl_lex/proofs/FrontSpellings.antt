-- The piece that a rule takes from the front of a text matches its class of tokens. For the law that tokens are as
-- written.
use Rattle.std.proofs.Common.{◌≡◌, ℕ, zero, suc, ◌+◌, ◌<◌, ◌≤◌, Bool, true, false, cond, ◌&&◌, ◌||◌, ◌==◌, ◌∙◌, sym, ap}
use Rattle.std.proofs.Common.{ap₂, subst, refl, List, [], ◌∷◌, ◌++◌, length, map, take, drop, get_or, arith, Option}
use Rattle.std.proofs.Common.{Some, None, nat_eq, nat_le}
use Rattle.std.specs.Prelude.{codes, pos, nat_lt}
use Rattle.std.specs.List.{list_all, list_any, starts_with}
use Rattle.std.specs.Char.{is_ascii_alphabetic, is_ascii_digit}
use Rattle.std.specs.Cmp.Lexicographic.{same_text}
use Rattle.std.specs.Str.{bytes_eq}
use Rattle.std.proofs.lemmas.Bool.{eqb-true, leb-true, ltb-true, or_left, or_right}
use Rattle.std.proofs.lemmas.List.{length-take-le}
use Rattle.std.proofs.lemmas.List.Folds.{length-prefix_len, list_any-append}
use Rattle.std.proofs.lemmas.Slice.Eq.{bytes_eq-Decides}
use Rattle.std.specs.Cmp.{first_so, second_so}
use Rattle.std.proofs.lemmas.Option.{same_Some}
use Rattle.aadl_lex.specs.declared.token.TheConstants.{NAME_BYTES}
use Rattle.aadl_lex.specs.declared.token.TokenKind.{TokenKind}
use Rattle.aadl_lex.specs.declared.token.TokenKind.TheVariants.{Word, Whole, Real, Quoted, Symbol, AnnexOpen}
use Rattle.aadl_lex.specs.declared.token.TokenKind.TheVariants.{AnnexClose, Unread}
use Rattle.aadl_lex.specs.declared.rules.First.{First}
use Rattle.aadl_lex.specs.declared.rules.First.TheVariants.{Skipped, Taken, Body, Refused}
use Rattle.aadl_lex.specs.declared.rules.Reading.{Reading}
use Rattle.aadl_lex.specs.declared.rules.Reading.TheVariants.{Outside, AfterName, Inside}
use Rattle.aadl_lex.specs.Rules.{is_blank, is_in_word, is_in_string, run, whole_len, decimal, most, real_len, number_by}
use Rattle.aadl_lex.specs.Rules.{body_len, close_from, annex_by, can_open, symbols_of_three, symbols_of_two}
use Rattle.aadl_lex.specs.Rules.{symbols_of_one, symbol_len, first, after}
use Rattle.aadl_lex.specs.proof.TokenSpellings.{IsWhole, IsReal, IsString, IsUnread, IsSymbol, IsSpelled, behind}
use Rattle.aadl_lex.proofs.AnnexEnds.{none_take, starts_exact, closes_of, closes_size, closes_front, closes_cut}
use Rattle.aadl_lex.proofs.AnnexEnds.{close_at}
use Rattle.aadl_lex.proofs.FrontExtents.{whole_len_le, run_some}
use Rattle.aadl_lex.proofs.WordSpellings.{all_taken, run_is_word}

length_taken : (p : ℕ → Bool) (s : List ℕ) → length (take (run p s) s) ≡ run p s
length_taken p s = ap (λ n. length (take n s)) (length-prefix_len p s)

-- an existing byte, between two parts
parted_at : (s : List ℕ) (a b x : ℕ) → get_or s a 0 ≡ x → (x ≡ 0 → ⊥)
    → take (a + 1 + b) s ≡ take a s ++ x ∷ take b (drop (a + 1) s)
parted_at [] a b x e some = absurd (some (sym e))
parted_at (c ∷ s) zero b x e some =
    ap (λ n. take n (c ∷ s)) (let g : 0 + 1 + b ≡ suc b = omega arith in g) ∙ ap (λ d. d ∷ take b s) e
parted_at (c ∷ s) (suc a) b x e some =
    ap (λ n. take n (c ∷ s)) (let g : suc a + 1 + b ≡ suc (a + 1 + b) = omega arith in g)
    ∙ ap (λ l. c ∷ l) (parted_at s a b x e some)
    ∙ ap (λ n. take (suc a) (c ∷ s) ++ x ∷ take b (drop n (c ∷ s))) (let g : suc (a + 1) ≡ suc a + 1 = omega arith in g)

-- a real

real_parts : (a b : Bool) (m n : ℕ) → cond (a && b) (Some m) None ≡ Some n → (a ≡ true) × (b ≡ true) × (m ≡ n)
real_parts true true m n e = (refl, refl, same_Some m n e)
real_parts true false m n e = absurd cc
real_parts false b m n e = absurd cc

real_shape : (s : List ℕ) (n : ℕ) → real_len s ≡ Some n → 0 < length s → is_ascii_digit (get_or s 0 0) ≡ true
    → IsReal (take n s)
real_shape s n e some digit =
    let a = run is_ascii_digit s in
    let b = run is_ascii_digit (drop (a + 1) s) in
    let parts = real_parts (get_or s a 0 == 46) (nat_lt 0 b) (a + 1 + b) n e in
    let whole = length_taken is_ascii_digit s in
    let first = run_some is_ascii_digit s some digit in
    let frac = length_taken is_ascii_digit (drop (a + 1) s) in
    let more = ltb-true 0 b parts.1 in
    record {
      whole = take a s;
      fraction = take b (drop (a + 1) s);
      spelled = ap (λ m. take m s) (sym parts.2) ∙ parted_at s a b 46 (eqb-true (get_or s a 0) 46 parts.0) (λ z. cc);
      has_whole = omega arith;
      has_fraction = omega arith;
      whole_digits = all_taken is_ascii_digit s;
      fraction_digits = all_taken is_ascii_digit (drop (a + 1) s);
    }

-- a whole number

digit_kept : (cs : List ℕ) → is_ascii_digit (get_or cs 0 0) ≡ true
    → is_ascii_digit (get_or (take (whole_len cs) cs) 0 0) ≡ true
digit_kept [] h = h
digit_kept (c ∷ cs) h =
    let len : whole_len (c ∷ cs) ≡ suc (whole_len cs) = rw h (omega arith) in
    ap (λ n. is_ascii_digit (get_or (take n (c ∷ cs)) 0 0)) len ∙ h

whole_by : (c : ℕ) (cs : List ℕ) (digit low next : Bool) → is_ascii_digit c ≡ digit → (c == 95) ≡ low
    → is_ascii_digit (get_or cs 0 0) ≡ next → whole_len (take (whole_len cs) cs) ≡ whole_len cs
    → whole_len (take (cond (digit || (low && next)) (1 + whole_len cs) 0) (c ∷ cs))
    ≡ cond (digit || (low && next)) (1 + whole_len cs) 0
whole_by c cs true low next d l n rest =
    let one : 1 + whole_len cs ≡ suc (whole_len cs) = omega arith in
    ap (λ m. whole_len (take m (c ∷ cs))) one
    ∙ ap (λ b. cond (b || (c == 95 && is_ascii_digit (get_or (take (whole_len cs) cs) 0 0)))
    (1 + whole_len (take (whole_len cs) cs)) 0) d ∙ ap (λ m. 1 + m) rest
whole_by c cs false true true d l n rest =
    let one : 1 + whole_len cs ≡ suc (whole_len cs) = omega arith in
    let kept = digit_kept cs n in
    ap (λ m. whole_len (take m (c ∷ cs))) one
    ∙ ap (λ b. cond (b || (c == 95 && is_ascii_digit (get_or (take (whole_len cs) cs) 0 0)))
    (1 + whole_len (take (whole_len cs) cs)) 0) d
    ∙ ap₂ (λ a b. cond (a && b) (1 + whole_len (take (whole_len cs) cs)) 0) l kept ∙ ap (λ m. 1 + m) rest
whole_by c cs false true false d l n rest = refl
whole_by c cs false false next d l n rest = refl

whole_taken : (s : List ℕ) → whole_len (take (whole_len s) s) ≡ whole_len s
whole_taken [] = refl
whole_taken (c ∷ cs) =
    whole_by c cs (is_ascii_digit c) (c == 95) (is_ascii_digit (get_or cs 0 0)) refl refl refl (whole_taken cs)

whole_shape : (s : List ℕ) → is_ascii_digit (get_or s 0 0) ≡ true → decimal (take (whole_len s) s) ≤ most
    → IsWhole (pos (decimal (take (whole_len s) s))) (take (whole_len s) s)
whole_shape s digit fits = record {
  digit = digit_kept s digit;
  spelled = whole_taken s ∙ sym (length-take-le (whole_len s) s (whole_len_le s));
  says = refl;
  fits = fits;
}

-- a string

string_shape : (s : List ℕ) → (get_or s 0 0 == 34) ≡ true → (get_or s (run is_in_string (drop 1 s) + 1) 0 == 34) ≡ true
    → IsString (take (run is_in_string (drop 1 s) + 2) s)
string_shape [] front close = absurd cc
string_shape (c ∷ t) front close =
    let n = run is_in_string t in
    let quote : get_or t n 0 ≡ 34 = ap (λ m. get_or (c ∷ t) m 0) (let g : suc n ≡ n + 1 = omega arith in g)
    ∙ eqb-true (get_or (c ∷ t) (n + 1) 0) 34 close in
    record {
      inner = take n t;
      spelled =
          ap (λ m. take m (c ∷ t)) (let g : n + 2 ≡ suc (n + 1 + 0) = omega arith in g)
          ∙ ap₂ (λ (d : ℕ) (l : List ℕ). d ∷ l) (eqb-true c 34 front) (parted_at t n 0 34 quote (λ z. cc));
      line = all_taken is_in_string t;
    }

-- an annex of another language

unread_shape : (s : List ℕ) (n : ℕ) → starts_with nat_eq s (codes "{**") ≡ true → close_from 0 (drop 3 s) ≡ Some n
    → IsUnread (take (n + 6) s)
unread_shape s n starts e =
    let exact = starts_exact 123 42 42 s starts in
    let t = exact.0 in
    let closes = closes_of t n (ap (λ (l : List ℕ). close_from 0 (drop 3 l)) (sym exact.1) ∙ e) in
    let size = closes_size t n closes in
    let long : length (take n t) ≡ n = length-take-le n t (omega arith) in
    record {
      inner = take n t;
      spelled =
          ap (take (n + 6)) exact.1
          ∙ ap (λ m. take m (123 ∷ 42 ∷ 42 ∷ t)) (let g : n + 6 ≡ suc (suc (suc (n + 3))) = omega arith in g)
          ∙ ap (λ l. 123 ∷ 42 ∷ 42 ∷ l) (closes_front t n closes);
      ends = close_at (take n t ++ codes "**}") n (closes_cut t n closes) ∙ ap Some (sym long);
    }

-- a symbol

any_by : (s : List ℕ) (n : ℕ) (x : List ℕ) (b more found : Bool) → (length x == n) ≡ true → starts_with nat_eq s x ≡ b
    → (more ≡ true → found ≡ true) → (b || more) ≡ true → (bytes_eq (take n s) x || found) ≡ true
any_by s n x true more found size h rest e =
    let same : take n s ≡ x = ap (λ m. take m s) (sym (eqb-true (length x) n size))
    ∙ sym (same_text x (take (length x) s) (sym h)) in
    or_left (bytes_eq (take n s) x) found ((bytes_eq-Decides (take n s) x).1 same)
any_by s n x false more found size h rest e = or_right (bytes_eq (take n s) x) found (rest e)

any_taken : (s : List ℕ) (n : ℕ) (xs : List (List ℕ)) → list_all (λ x. length x == n) xs ≡ true
    → list_any (starts_with nat_eq s) xs ≡ true → list_any (bytes_eq (take n s)) xs ≡ true
any_taken s n [] sizes e = absurd cc
any_taken s n (x ∷ xs) sizes e =
    any_by s n x (starts_with nat_eq s x) (list_any (starts_with nat_eq s) xs) (list_any (bytes_eq (take n s)) xs)
    (first_so (length x == n) _ sizes) refl
    (any_taken s n xs (second_so (length x == n) _ sizes)) e

one_by : (c d : ℕ) (b more found : Bool) → (c == d) ≡ b → (more ≡ true → found ≡ true) → (b || more) ≡ true
    → (bytes_eq (d ∷ []) (c ∷ []) || found) ≡ true
one_by c d true more found h rest e =
    or_left (bytes_eq (d ∷ []) (c ∷ [])) found
    ((bytes_eq-Decides (d ∷ []) (c ∷ [])).1 (ap (λ x. x ∷ []) (sym (eqb-true c d h))))
one_by c d false more found h rest e = or_right (bytes_eq (d ∷ []) (c ∷ [])) found (rest e)

one_taken : (d : ℕ) (cs : List ℕ) → list_any (λ c. c == d) cs ≡ true
    → list_any (bytes_eq (d ∷ [])) (map (λ c. c ∷ []) cs) ≡ true
one_taken d [] e = absurd cc
one_taken d (c ∷ cs) e =
    one_by c d (c == d) (list_any (λ x. x == d) cs) (list_any (bytes_eq (d ∷ [])) (map (λ x. x ∷ []) cs)) refl
    (one_taken d cs) e

one_shape : (s : List ℕ) → 0 < length s → list_any (λ c. c == get_or s 0 0) symbols_of_one ≡ true
    → list_any (bytes_eq (take 1 s)) (map (λ c. c ∷ []) symbols_of_one) ≡ true
one_shape [] some e = absurd (omega arith)
one_shape (d ∷ s) some e = one_taken d symbols_of_one e

any_front : (p : List ℕ → Bool) (xs ys : List (List ℕ)) → list_any p xs ≡ true → list_any p (xs ++ ys) ≡ true
any_front p xs ys e = list_any-append p xs ys ∙ or_left (list_any p xs) (list_any p ys) e

any_back : (p : List ℕ → Bool) (xs ys : List (List ℕ)) → list_any p ys ≡ true → list_any p (xs ++ ys) ≡ true
any_back p xs ys e = list_any-append p xs ys ∙ or_right (list_any p xs) (list_any p ys) e

abbrev single_symbols : List (List ℕ)
single_symbols = map (λ c. c ∷ []) symbols_of_one

symbol_by : (s : List ℕ) → 0 < length s → (a b c : Bool) → list_any (starts_with nat_eq s) symbols_of_three ≡ a
    → list_any (starts_with nat_eq s) symbols_of_two ≡ b → list_any (λ x. x == get_or s 0 0) symbols_of_one ≡ c
    → (cond a 3 (cond b 2 (cond c 1 0)) == 0) ≡ false → IsSymbol (take (cond a 3 (cond b 2 (cond c 1 0))) s)
symbol_by s some true b c h k l e =
    any_front (bytes_eq (take 3 s)) symbols_of_three (symbols_of_two ++ single_symbols)
    (any_taken s 3 symbols_of_three refl h)
symbol_by s some false true c h k l e =
    any_back (bytes_eq (take 2 s)) symbols_of_three (symbols_of_two ++ single_symbols)
    (any_front (bytes_eq (take 2 s)) symbols_of_two single_symbols (any_taken s 2 symbols_of_two refl k))
symbol_by s some false false true h k l e =
    any_back (bytes_eq (take 1 s)) symbols_of_three (symbols_of_two ++ single_symbols)
    (any_back (bytes_eq (take 1 s)) symbols_of_two single_symbols (one_shape s some l))
symbol_by s some false false false h k l e = absurd cc

symbol_shape : (s : List ℕ) → 0 < length s → (symbol_len s == 0) ≡ false → IsSymbol (take (symbol_len s) s)
symbol_shape s some e =
    symbol_by s some (list_any (starts_with nat_eq s) symbols_of_three) (list_any (starts_with nat_eq s) symbols_of_two)
    (list_any (λ x. x == get_or s 0 0) symbols_of_one) refl refl refl e

-- The piece at a front matches its class, if a body that is read contains no `**}`.
abbrev pub Shape : Reading → List ℕ → First → Type 0
Shape r s (Skipped n) = Unit {0}
Shape r s (Refused fault) = Unit {0}
Shape r s (Body n) = (r ≡ AfterName) × (starts_with nat_eq s (codes "{**") ≡ true) × (close_from 0 (drop 3 s) ≡ Some n)
Shape r s (Taken AnnexOpen n) = ⊥
Shape r s (Taken AnnexClose n) = ⊥
Shape r s (Taken kind n) = (r ≡ Inside → close_from 0 s ≡ None) → IsSpelled r kind (take n s)

shape_if : (r : Reading) (s : List ℕ) (b : Bool) (x y : First) → (b ≡ true → Shape r s x) → (b ≡ false → Shape r s y)
    → Shape r s (cond b x y)
shape_if r s true x y holds fails = holds refl
shape_if r s false x y holds fails = fails refl

number_shape : (r : Reading) (at : ℕ) (s : List ℕ) (real : Option ℕ) → real_len s ≡ real → 0 < length s
    → is_ascii_digit (get_or s 0 0) ≡ true → Shape r s (number_by at s real)
number_shape r at s (Some n) e some digit = λ clear. real_shape s n e some digit
number_shape r at s None e some digit =
    let b = take (whole_len s) s in
    let size : length b ≡ whole_len s = length-take-le (whole_len s) s (whole_len_le s) in
    shape_if r s (nat_le (decimal b) most) _ _
    (λ fits clear. subst (λ (n : ℕ). IsWhole (pos (decimal b)) (take n s)) (sym size)
    (whole_shape s digit (leb-true (decimal b) most fits))) (λ _. tt)

annex_shape : (r : Reading) (at : ℕ) (s : List ℕ) (body : Option ℕ) → starts_with nat_eq s (codes "{**") ≡ true
    → can_open r ≡ true → body_len (drop 3 s) ≡ body → Shape r s (annex_by r at body)
annex_shape r at s None starts open_here e = tt
annex_shape AfterName at s (Some n) starts open_here e = (refl, starts, e)
annex_shape Outside at s (Some n) starts open_here e = λ clear. (refl, unread_shape s n starts e)
annex_shape Inside at s (Some n) starts open_here e = absurd cc

pub first_shape : (r : Reading) (at : ℕ) (s : List ℕ) → 0 < length s → Shape r s (first r at s)
unfolding first
first_shape r at s some =
    shape_if r s (is_blank (get_or s 0 0)) _ _ (λ _. tt)
    (λ _. shape_if r s (starts_with nat_eq s (codes "--")) _ _ (λ _. tt)
    (λ _. shape_if r s (is_ascii_alphabetic (get_or s 0 0)) _ _
    (λ letter. shape_if r s (nat_le (run is_in_word s) NAME_BYTES) _ _
    (λ short clear. run_is_word s some letter short) (λ _. tt))
    (λ _. shape_if r s (is_ascii_digit (get_or s 0 0)) _ _ (λ digit. number_shape r at s (real_len s) refl some digit)
    (λ _. shape_if r s (get_or s 0 0 == 34) _ _
    (λ front. shape_if r s (get_or s (run is_in_string (drop 1 s) + 1) 0 == 34) _ _
    (λ close clear. (
      string_shape s front close,
      λ inside. none_take s (run is_in_string (drop 1 s) + 2) 0 (clear inside),
    )) (λ _. tt))
    (λ _. shape_if r s (starts_with nat_eq s (codes "{**") && can_open r) _ _
    (λ both. annex_shape r at s (body_len (drop 3 s)) (first_so (starts_with nat_eq s (codes "{**")) _ both)
    (second_so (starts_with nat_eq s (codes "{**")) _ both) refl)
    (λ _. shape_if r s (symbol_len s == 0) _ _ (λ _. tt) (λ long clear. symbol_shape s some long)))))))

-- a token that does not end a body
pub taken_spelled : (r : Reading) (s : List ℕ) (kind : TokenKind) (n : ℕ) → Shape r s (Taken kind n)
    → (r ≡ Inside → close_from 0 s ≡ None)
    → IsSpelled r kind (take n s) × ((b : List ℕ) → behind r kind b ≡ after r kind b)
taken_spelled r s Word n h clear = (h clear, λ b. refl)
taken_spelled r s (Whole v) n h clear = (h clear, λ b. refl)
taken_spelled r s Real n h clear = (h clear, λ b. refl)
taken_spelled r s Quoted n h clear = (h clear, λ b. refl)
taken_spelled r s Symbol n h clear = (h clear, λ b. refl)
taken_spelled r s Unread n h clear = (h clear, λ b. refl)
taken_spelled r s AnnexOpen n h clear = absurd h
taken_spelled r s AnnexClose n h clear = absurd h
