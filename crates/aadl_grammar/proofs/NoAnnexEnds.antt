-- No terminal inside a behaviour annex contains the end `**}` of the annex. For the law that canonical text is read
-- back.
use Rattle.std.proofs.Common.{◌≡◌, ℕ, suc, ◌+◌, Bool, true, false, cond, not, ◌&&◌, ◌||◌, ◌==◌, ◌∙◌, sym, ap, refl}
use Rattle.std.proofs.Common.{List, [], ◌∷◌, ◌++◌, append_assoc, length, length-append, arith, Option, Some, None}
use Rattle.std.proofs.Common.{nat_eq}
use Rattle.std.specs.Prelude.{codes}
use Rattle.std.specs.List.{list_all, starts_with}
use Rattle.std.specs.Char.{is_ascii_alphabetic, is_ascii_digit}
use Rattle.std.specs.Fmt as fmt
use Rattle.std.proofs.lemmas.Bool.{and_from, or_left}
use Rattle.std.specs.Cmp.{first_so, second_so}
use Rattle.std.proofs.Math.Bool.{and-false}
use Rattle.aadl_lex.specs.declared.rules.Reading.TheVariants.{Inside}
use Rattle.aadl_lex.specs.Rules.{is_in_word, is_word, close_from}
use Rattle.aadl_tree.specs.declared.mark.Mark.{Mark}
use Rattle.aadl_tree.specs.declared.mark.Mark.TheVariants as k
use Rattle.aadl_tree.specs.KeywordsAndSymbols.{mark_text}
use Rattle.aadl_tree.specs.Terminals.{PlainTerminal, mark}
use Rattle.aadl_tree.specs.CanonicalText.{kind_text}
use Rattle.aadl_grammar.proofs.WordAndSymbolLexing.{other_bytes}
use Rattle.aadl_lex.proofs.AnnexEnds.{none_parts}
use Rattle.aadl_lex.specs.proof.TokenSpellings.{IsReal, IsString}
use Rattle.aadl_grammar.proofs.LiteralAndAnnexLexing.{number_digits}
use Rattle.aadl_grammar.proofs.PossibleTerminals.{IsPossibleTerminal, a_word, a_number, a_real, a_string, a_keyword}
use Rattle.aadl_grammar.proofs.PossibleTerminals.{a_symbol}
use Rattle.aadl_grammar.proofs.PossibleTerminals.{closes}
use Rattle.aadl_grammar.proofs.TerminalRelexing.{Ends, IsPlain, keyword_is_word}

-- the search passes bytes other than `*`
pub close_past : (p : ℕ → Bool) → p 42 ≡ false → (w s : List ℕ) (n : ℕ) → list_all p w ≡ true
    → close_from n (w ++ s) ≡ close_from (n + length w) s
close_past p star [] s n e = ap (λ m. close_from m s) (let g : n ≡ n + 0 = omega arith in g)
close_past p star (c ∷ w) s n e =
    let here = other_bytes p c 42 (first_so (p c) _ e) star in
    ap (λ b. cond (b && starts_with nat_eq (w ++ s) (codes "*}")) (Some n) (close_from (n + 1) (w ++ s))) here
    ∙ close_past p star w s (n + 1) (second_so (p c) _ e)
    ∙ ap (λ m. close_from m s) (let g : n + 1 + length w ≡ n + suc (length w) = omega arith in g)

-- and a `*` that ends its token
star_past : (s : List ℕ) (n : ℕ) → Ends (mark k.Star) s → close_from n (42 ∷ s) ≡ close_from (n + 1) s
star_past [] n e = refl
star_past (h ∷ t) n e = rw e refl

-- three bytes determine whether a `**}` begins
starts_same : (c : ℕ) (w s : List ℕ) → starts_with nat_eq (c ∷ (w ++ 34 ∷ [])) (codes "**}") ≡ false
    → starts_with nat_eq (c ∷ (w ++ 34 ∷ s)) (codes "**}") ≡ false
starts_same c [] s e = and-false (42 == c)
starts_same c (d ∷ []) s e = ap (λ b. (42 == c) && b) (and-false (42 == d)) ∙ and-false (42 == c)
starts_same c (d ∷ (f ∷ w)) s e = e

-- the search passes a string without `**}` and its closing quote
string_past : (w s : List ℕ) (n m : ℕ) → close_from m (w ++ 34 ∷ []) ≡ None
    → close_from n (w ++ 34 ∷ s) ≡ close_from (n + length w + 1) s
string_past [] s n m e = ap (λ j. close_from j s) (let g : n + 1 ≡ n + 0 + 1 = omega arith in g)
string_past (c ∷ w) s n m e =
    let parts =
    none_parts (starts_with nat_eq (c ∷ (w ++ 34 ∷ [])) (codes "**}")) m (close_from (m + 1) (w ++ 34 ∷ [])) e in
    ap (λ b. cond b (Some n) (close_from (n + 1) (w ++ 34 ∷ s))) (starts_same c w s parts.0)
    ∙ string_past w s (n + 1) (m + 1) parts.1
    ∙ ap (λ j. close_from j s) (let g : n + 1 + length w + 1 ≡ n + suc (length w) + 1 = omega arith in g)

close_by : (b : Bool) (j size m : ℕ) (y z : Option ℕ) → (y ≡ Some size → z ≡ Some (m + size))
    → cond b (Some j) y ≡ Some size → cond b (Some (m + j)) z ≡ Some (m + size)
close_by true j size m y z go e = ap (λ i. Some (m + i)) (some_nat j size e)
  where
    some_nat : (a b : ℕ) → Some a ≡ Some b → a ≡ b
    some_nat a b e = cc
close_by false j size m y z go e = go e

-- the position of the first `**}`, counted from another number
pub close_at : (s : List ℕ) (m j size : ℕ) → close_from j s ≡ Some size → close_from (m + j) s ≡ Some (m + size)
close_at [] m j size e = absurd cc
close_at (c ∷ s) m j size e =
    close_by (starts_with nat_eq (c ∷ s) (codes "**}")) j size m (close_from (j + 1) s) (close_from (m + j + 1) s)
    (λ g. ap (λ i. close_from i s) (let h : m + j + 1 ≡ m + (j + 1) = omega arith in h) ∙ close_at s m (j + 1) size g) e

abbrev no_star : ℕ → Bool
no_star c = not (c == 42)

mark_past : (m : Mark) (s : List ℕ) (n : ℕ) → IsPlain (mark m) → Ends (mark m) s
    → close_from n (mark_text m ++ s) ≡ close_from (n + length (mark_text m)) s
mark_past k.Star s n plain e = star_past s n e
mark_past k.AnnexOpen s n plain e = absurd (plain.0 refl)
mark_past k.AnnexClose s n plain e = absurd (plain.1 refl)
mark_past m s n plain e = close_past no_star refl (mark_text m) s n refl

word_past : (b s : List ℕ) (n : ℕ) → is_word b ≡ true → close_from n (b ++ s) ≡ close_from (n + length b) s
word_past [] s n w = absurd cc
word_past (c ∷ b) s n w =
    close_past is_in_word refl (c ∷ b) s n
    (second_so (is_ascii_alphabetic c) _ (first_so (is_ascii_alphabetic c && list_all is_in_word (c ∷ b)) _ w))

abbrev in_real : ℕ → Bool
in_real c = is_ascii_digit c || c == 46

pub all_weaker : (p q : ℕ → Bool) (w : List ℕ) → ((c : ℕ) → p c ≡ true → q c ≡ true) → list_all p w ≡ true
    → list_all q w ≡ true
all_weaker p q [] h e = refl
all_weaker p q (c ∷ w) h e = and_from (q c) _ (h c (first_so (p c) _ e)) (all_weaker p q w h (second_so (p c) _ e))

pub all_append : (q : ℕ → Bool) (v w : List ℕ) → list_all q v ≡ true → list_all q w ≡ true → list_all q (v ++ w) ≡ true
all_append q [] w e h = h
all_append q (c ∷ v) w e h = and_from (q c) _ (first_so (q c) _ e) (all_append q v w (second_so (q c) _ e) h)

real_past : (b s : List ℕ) (n : ℕ) → IsReal b → close_from n (b ++ s) ≡ close_from (n + length b) s
real_past b s n h =
    close_past in_real refl b s n
    (ap (list_all in_real) h.spelled
    ∙ all_append in_real h.whole (46 ∷ h.fraction)
    (all_weaker is_ascii_digit in_real h.whole (λ c d. or_left (is_ascii_digit c) _ d) h.whole_digits)
    (all_weaker is_ascii_digit in_real h.fraction (λ c d. or_left (is_ascii_digit c) _ d) h.fraction_digits))

quoted_past : (b s : List ℕ) (n : ℕ) → IsString b → close_from 0 b ≡ None
    → close_from n (b ++ s) ≡ close_from (n + length b) s
quoted_past b s n h e =
    let none : close_from 0 (34 ∷ (h.inner ++ 34 ∷ [])) ≡ None = ap (close_from 0) (sym h.spelled) ∙ e in
    let size : length b ≡ suc (length h.inner + 1) = ap (length {A = ℕ}) h.spelled
    ∙ (let l = length-append h.inner (34 ∷ []) in omega arith) in
    ap (λ (l : List ℕ). close_from n (l ++ s)) h.spelled
    ∙ ap (λ (l : List ℕ). close_from n (34 ∷ l)) (append_assoc h.inner (34 ∷ []) s)
    ∙ string_past (34 ∷ h.inner) s n 0 none
    ∙ ap (λ j. close_from j s) (let g : n + suc (length h.inner) + 1 ≡ n + length b = omega arith in g)

-- The search for `**}` passes each terminal inside an annex.
pub kind_past : (kind : PlainTerminal) (s : List ℕ) (n : ℕ) → IsPossibleTerminal Inside kind → IsPlain kind
    → Ends kind s
    → close_from n (kind_text kind ++ s) ≡ close_from (n + length (kind_text kind)) s
kind_past _ s n (a_word _ b w h) plain e = word_past b s n w
kind_past _ s n (a_number _ m h) plain e = close_past is_ascii_digit refl (fmt.decimal m) s n (number_digits m h)
kind_past _ s n (a_real _ b h) plain e = real_past b s n h
kind_past _ s n (a_string _ b h u c) plain e = quoted_past b s n h (c refl)
kind_past _ s n (a_keyword _ m h) plain e = word_past (mark_text m) s n (keyword_is_word true m h)
kind_past _ s n (a_symbol _ m h) plain e = mark_past m s n plain e
kind_past _ s n closes plain e = absurd (plain.1 refl)
