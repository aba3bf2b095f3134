-- Blanks, words and symbols at the front of a text: each is lexed as such if the following bytes do not continue it.
-- For the law that canonical text is read back.
use Rattle.std.proofs.Common.{◌≡◌, ℕ, ◌+◌, Bool, true, false, cond, not, ◌&&◌, ◌||◌, ◌==◌, ◌∙◌, ap, refl, List, [], ◌∷◌}
use Rattle.std.proofs.Common.{◌++◌, length, get_or, arith, Some, nat_eq, nat_le}
use Rattle.std.specs.Prelude.{codes}
use Rattle.std.specs.List.{list_all, prefix_len, starts_with}
use Rattle.std.specs.Char.{is_ascii_alphabetic}
use Rattle.std.proofs.lemmas.Bool.{false_from_ne_true, eqb-true, not-true, or_from, or_parts}
use Rattle.std.proofs.lemmas.List.Folds.{length-prefix_len}
use Rattle.std.specs.Cmp.{first_so as both_left, second_so}
use Rattle.aadl_lex.specs.declared.token.TokenKind.TheVariants.{Word, Symbol}
use Rattle.aadl_lex.specs.declared.fault.LexFault.TheVariants.{LongName}
use Rattle.aadl_lex.specs.declared.rules.First.{First}
use Rattle.aadl_lex.specs.declared.rules.First.TheVariants.{Skipped, Taken, Refused}
use Rattle.aadl_lex.specs.declared.rules.Reading.{Reading}
use Rattle.aadl_lex.specs.declared.token.TheConstants.{NAME_BYTES}
use Rattle.aadl_lex.specs.Rules.{is_blank, is_in_word, run, is_word, first}
use Rattle.aadl_tree.specs.declared.mark.Mark.{Mark}
use Rattle.aadl_tree.specs.declared.mark.Mark.TheVariants as k
use Rattle.aadl_tree.specs.KeywordsAndSymbols.{mark_text, symbol_of}

-- a byte that passes the test differs from a byte that fails it
pub other_byte : (p : ℕ → Bool) (c d : ℕ) → p c ≡ true → p d ≡ false → (c == d) ≡ false
other_byte p c d h fails =
    false_from_ne_true (c == d) (λ e. let same = eqb-true c d e in let f = ap p same in absurd cc)

pub other_bytes : (p : ℕ → Bool) (c d : ℕ) → p c ≡ true → p d ≡ false → (d == c) ≡ false
other_bytes p c d h fails =
    false_from_ne_true (d == c) (λ e. let same = eqb-true d c e in let f = ap p same in absurd cc)

-- the lexer skips blanks
pub space_first : (r : Reading) (at : ℕ) (s : List ℕ) → first r at (32 ∷ s) ≡ Skipped 1
unfolding first
space_first r at s = refl

pub line_end_first : (r : Reading) (at : ℕ) (s : List ℕ) → first r at (10 ∷ s) ≡ Skipped 1
unfolding first
line_end_first r at s = refl

-- the bytes that follow do not pass the test
abbrev pub stops : (ℕ → Bool) → List ℕ → Bool
stops p [] = true
stops p (h ∷ t) = not (p h)

prefix_stops : (p : ℕ → Bool) (rest : List ℕ) → stops p rest ≡ true → prefix_len p rest ≡ 0
prefix_stops p [] e = refl
prefix_stops p (h ∷ t) e = ap (λ b. cond b (1 + prefix_len p t) 0) (not-true (p h) e)

prefix_all : (p : ℕ → Bool) (w rest : List ℕ) → list_all p w ≡ true → stops p rest ≡ true
    → prefix_len p (w ++ rest) ≡ length w
prefix_all p [] rest e h = prefix_stops p rest h
prefix_all p (c ∷ w) rest e h =
    ap (λ b. cond b (1 + prefix_len p (w ++ rest)) 0) (both_left (p c) _ e)
    ∙ (let more = prefix_all p w rest (second_so (p c) _ e) h in omega arith)

pub run_all : (p : ℕ → Bool) (w rest : List ℕ) → list_all p w ≡ true → stops p rest ≡ true
    → run p (w ++ rest) ≡ length w
run_all p w rest e h = length-prefix_len p (w ++ rest) ∙ prefix_all p w rest e h

-- a byte other than a blank and `-`
pub record Visible (p : ℕ → Bool) : Type 0 where
  pub space : p 32 ≡ false
  pub tab : p 9 ≡ false
  pub line : p 10 ≡ false
  pub return : p 13 ≡ false
  pub dash : p 45 ≡ false

pub not_blank : (p : ℕ → Bool) (c : ℕ) → Visible p → p c ≡ true → is_blank c ≡ false
not_blank p c v h =
    or_from ((c == 32 || c == 9) || c == 10) _
    (or_from (c == 32 || c == 9) _ (or_from (c == 32) _ (other_byte p c 32 h v.space) (other_byte p c 9 h v.tab))
    (other_byte p c 10 h v.line)) (other_byte p c 13 h v.return)

pub not_comment : (p : ℕ → Bool) (c : ℕ) (s : List ℕ) → Visible p → p c ≡ true
    → starts_with nat_eq (c ∷ s) (codes "--") ≡ false
not_comment p c s v h = let e = other_bytes p c 45 h v.dash in rw e refl

third : (a b c : Bool) (x y z w : First) → a ≡ false → b ≡ false → c ≡ true → cond a x (cond b y (cond c z w)) ≡ z
third false false true x y z w e f g = refl
third false false false x y z w e f g = absurd cc
third false true c x y z w e f g = absurd cc
third true b c x y z w e f g = absurd cc

pub fourth : (a b c d : Bool) (x y z w v : First) → a ≡ false → b ≡ false → c ≡ false → d ≡ true
    → cond a x (cond b y (cond c z (cond d w v))) ≡ w
fourth false false c d x y z w v e f g h = third false c d y z w v refl g h
fourth false true c d x y z w v e f g h = absurd cc
fourth true b c d x y z w v e f g h = absurd cc

-- a letter begins a word
letter_goes : (r : Reading) (at c : ℕ) (s : List ℕ) → is_ascii_alphabetic c ≡ true
    → nat_le (run is_in_word (c ∷ s)) NAME_BYTES ≡ true → first r at (c ∷ s) ≡ Taken Word (run is_in_word (c ∷ s))
unfolding first
letter_goes r at c s letter short =
    let v : Visible is_ascii_alphabetic =
    record { space = refl; tab = refl; line = refl; return = refl; dash = refl } in
    third (is_blank c) (starts_with nat_eq (c ∷ s) (codes "--")) (is_ascii_alphabetic c) _ _ _ _
    (not_blank is_ascii_alphabetic c v letter) (not_comment is_ascii_alphabetic c s v letter) letter
    ∙ ap (λ b. cond b (Taken Word (run is_in_word (c ∷ s))) (Refused (LongName at))) short

pub word_first : (r : Reading) (at : ℕ) (w rest : List ℕ) → is_word w ≡ true → stops is_in_word rest ≡ true
    → first r at (w ++ rest) ≡ Taken Word (length w)
word_first r at [] rest w stop = absurd cc
word_first r at (c ∷ cs) rest w stop =
    let letter : is_ascii_alphabetic c ≡ true =
    both_left (is_ascii_alphabetic c) _ (both_left (is_ascii_alphabetic c && list_all is_in_word (c ∷ cs)) _ w) in
    let all : list_all is_in_word (c ∷ cs) ≡ true =
    second_so (is_ascii_alphabetic c) _ (both_left (is_ascii_alphabetic c && list_all is_in_word (c ∷ cs)) _ w) in
    let short : nat_le (length (c ∷ cs)) NAME_BYTES ≡ true =
    second_so (is_ascii_alphabetic c && list_all is_in_word (c ∷ cs)) _ w in
    let len = run_all is_in_word (c ∷ cs) rest all stop in
    letter_goes r at c (cs ++ rest) letter (ap (λ n. nat_le n NAME_BYTES) len ∙ short) ∙ ap (λ n. Taken Word n) len

-- the bytes that continue a symbol, or that continue `*` to a `**}`
abbrev pub extends : Mark → ℕ → Bool
extends k.Colon h = (58 == h) || (61 == h)
extends k.Dot h = 46 == h
extends k.BraceOpen h = 42 == h
extends k.BracketClose h = 45 == h
extends k.Plus h = 61 == h
extends k.Minus h = ((45 == h) || (62 == h)) || (91 == h)
extends k.Equal h = 62 == h
extends k.Less h = 61 == h
extends k.Greater h = 61 == h
extends k.Bang h = 61 == h
extends k.Star h = 42 == h
extends _ h = false

pub symbol_first : (m : Mark) (r : Reading) (at : ℕ) (rest : List ℕ) → symbol_of (mark_text m) ≡ Some m
    → extends m (get_or rest 0 0) ≡ false → first r at (mark_text m ++ rest) ≡ Taken Symbol (length (mark_text m))
unfolding first
symbol_first k.Semicolon r at [] s c = refl
symbol_first k.Semicolon r at (h ∷ t) s c = refl
symbol_first k.Comma r at [] s c = refl
symbol_first k.Comma r at (h ∷ t) s c = refl
symbol_first k.BraceClose r at [] s c = refl
symbol_first k.BraceClose r at (h ∷ t) s c = refl
symbol_first k.ParenOpen r at [] s c = refl
symbol_first k.ParenOpen r at (h ∷ t) s c = refl
symbol_first k.ParenClose r at [] s c = refl
symbol_first k.ParenClose r at (h ∷ t) s c = refl
symbol_first k.BracketOpen r at [] s c = refl
symbol_first k.BracketOpen r at (h ∷ t) s c = refl
symbol_first k.Star r at [] s c = refl
symbol_first k.Star r at (h ∷ t) s c = refl
symbol_first k.Slash r at [] s c = refl
symbol_first k.Slash r at (h ∷ t) s c = refl
symbol_first k.Tick r at [] s c = refl
symbol_first k.Tick r at (h ∷ t) s c = refl
symbol_first k.Range r at [] s c = refl
symbol_first k.Range r at (h ∷ t) s c = refl
symbol_first k.Scope r at [] s c = refl
symbol_first k.Scope r at (h ∷ t) s c = refl
symbol_first k.Becomes r at [] s c = refl
symbol_first k.Becomes r at (h ∷ t) s c = refl
symbol_first k.Appends r at [] s c = refl
symbol_first k.Appends r at (h ∷ t) s c = refl
symbol_first k.Arrow r at [] s c = refl
symbol_first k.Arrow r at (h ∷ t) s c = refl
symbol_first k.GuardOpen r at [] s c = refl
symbol_first k.GuardOpen r at (h ∷ t) s c = refl
symbol_first k.GuardClose r at [] s c = refl
symbol_first k.GuardClose r at (h ∷ t) s c = refl
symbol_first k.NotEqual r at [] s c = refl
symbol_first k.NotEqual r at (h ∷ t) s c = refl
symbol_first k.LessOrEqual r at [] s c = refl
symbol_first k.LessOrEqual r at (h ∷ t) s c = refl
symbol_first k.GreaterOrEqual r at [] s c = refl
symbol_first k.GreaterOrEqual r at (h ∷ t) s c = refl
symbol_first k.Assign r at [] s c = refl
symbol_first k.Assign r at (h ∷ t) s c = refl
symbol_first k.Dot r at [] s c = refl
symbol_first k.Dot r at (h ∷ t) s c = rw c refl
symbol_first k.BraceOpen r at [] s c = refl
symbol_first k.BraceOpen r at (h ∷ t) s c = rw c refl
symbol_first k.BracketClose r at [] s c = refl
symbol_first k.BracketClose r at (h ∷ t) s c = rw c refl
symbol_first k.Plus r at [] s c = refl
symbol_first k.Plus r at (h ∷ t) s c = rw c refl
symbol_first k.Equal r at [] s c = refl
symbol_first k.Equal r at (h ∷ t) s c = rw c refl
symbol_first k.Less r at [] s c = refl
symbol_first k.Less r at (h ∷ t) s c = rw c refl
symbol_first k.Greater r at [] s c = refl
symbol_first k.Greater r at (h ∷ t) s c = rw c refl
symbol_first k.Bang r at [] s c = refl
symbol_first k.Bang r at (h ∷ t) s c = rw c refl
symbol_first k.Colon r at [] s c = refl
symbol_first k.Colon r at (h ∷ t) s c = let e = or_parts (58 == h) (61 == h) c in let f = e.0 in let g = e.1 in
    rw (f, g) refl
symbol_first k.Minus r at [] s c = refl
symbol_first k.Minus r at (h ∷ t) s c =
    let e = or_parts ((45 == h) || (62 == h)) (91 == h) c in let f = or_parts (45 == h) (62 == h) e.0 in
    let dash = f.0 in let arrow = f.1 in let guard = e.1 in rw (dash, arrow, guard) refl
symbol_first _ r at rest s c = absurd cc
