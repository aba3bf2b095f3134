-- The text of a terminal is lexed as this terminal's token if the bytes after it do not continue it. For the law that
-- canonical text is read back.
use Rattle.std.proofs.Common.{◌≡◌, ℕ, ◌<◌, Bool, true, false, ◌&&◌, ◌||◌, ◌∙◌, sym, ap, refl, List, [], ◌∷◌, ◌++◌}
use Rattle.std.proofs.Common.{length, length-append, get_or, arith, Some}
use Rattle.std.specs.Prelude.{codes, pos, if◌then◌else◌}
use Rattle.std.specs.Char.{is_ascii_digit}
use Rattle.std.specs.Fmt as fmt
use Rattle.std.specs.Str.{str_eq_ignore_ascii_case}
use Rattle.std.proofs.lemmas.Bool.{or_parts, not_from_false}
use Rattle.aadl_lex.specs.declared.token.TokenKind.{TokenKind}
use Rattle.aadl_lex.specs.declared.token.TokenKind.TheVariants.{Word, Whole, Real, Quoted, Symbol, Unread}
use Rattle.aadl_lex.specs.declared.rules.First.TheVariants.{Taken}
use Rattle.aadl_lex.specs.declared.rules.Reading.{Reading}
use Rattle.aadl_lex.specs.declared.rules.Reading.TheVariants.{Outside, AfterName, Inside}
use Rattle.aadl_lex.specs.Rules.{is_in_word, is_word, first, after}
use Rattle.aadl_tree.specs.declared.mark.Mark.{Mark}
use Rattle.aadl_tree.specs.declared.mark.Mark.TheVariants as k
use Rattle.aadl_tree.specs.KeywordsAndSymbols.{mark_text, keyword_of, symbol_of}
use Rattle.aadl_tree.specs.Terminals.{PlainTerminal, word, whole, real, quoted, mark, word_kind, symbol_kind}
use Rattle.aadl_tree.specs.Terminals.{class_kind}
use Rattle.aadl_tree.specs.Terminals.{inside_behind}
use Rattle.aadl_tree.specs.CanonicalText.{kind_text}
use Rattle.aadl_grammar.proofs.WordAndSymbolLexing.{stops, extends, word_first, symbol_first}
use Rattle.aadl_grammar.proofs.LiteralAndAnnexLexing.{in_number, number_first, number_some, real_first, string_first}
use Rattle.aadl_grammar.proofs.LiteralAndAnnexLexing.{unread_first}
use Rattle.aadl_grammar.proofs.PossibleTerminals.{is_inside, IsPossibleTerminal, a_word, a_number, a_real, a_string}
use Rattle.aadl_grammar.proofs.PossibleTerminals.{an_annex}
use Rattle.aadl_grammar.proofs.PossibleTerminals.{a_keyword, a_symbol, opens, closes, behind}

-- bytes that would continue a terminal
abbrev pub goes_on : PlainTerminal → ℕ → Bool
goes_on (word b) h = is_in_word h
goes_on (whole n) h = in_number h
goes_on (real b) h = is_ascii_digit h
goes_on (mark m) h = (is_word (mark_text m) && is_in_word h) || extends m h
goes_on _ h = false

-- the following bytes do not continue the terminal
abbrev pub Ends : PlainTerminal → List ℕ → Type 0
Ends kind [] = Unit {0}
Ends kind (h ∷ t) = goes_on kind h ≡ false

ends_stops : (kind : PlainTerminal) (p : ℕ → Bool) (rest : List ℕ) → ((h : ℕ) → goes_on kind h ≡ false → p h ≡ false)
    → Ends kind rest → stops p rest ≡ true
ends_stops kind p [] same e = refl
ends_stops kind p (h ∷ t) same e = not_from_false (p h) (same h e)

-- a keyword's text is a word
pub keyword_is_word : (r : Bool) (m : Mark) → keyword_of r (mark_text m) ≡ Some m → is_word (mark_text m) ≡ true
keyword_is_word true k.Semicolon e = absurd cc
keyword_is_word true k.Colon e = absurd cc
keyword_is_word true k.Comma e = absurd cc
keyword_is_word true k.Dot e = absurd cc
keyword_is_word true k.Range e = absurd cc
keyword_is_word true k.Scope e = absurd cc
keyword_is_word true k.Becomes e = absurd cc
keyword_is_word true k.Appends e = absurd cc
keyword_is_word true k.Arrow e = absurd cc
keyword_is_word true k.GuardOpen e = absurd cc
keyword_is_word true k.GuardClose e = absurd cc
keyword_is_word true k.BraceOpen e = absurd cc
keyword_is_word true k.BraceClose e = absurd cc
keyword_is_word true k.ParenOpen e = absurd cc
keyword_is_word true k.ParenClose e = absurd cc
keyword_is_word true k.BracketOpen e = absurd cc
keyword_is_word true k.BracketClose e = absurd cc
keyword_is_word true k.Plus e = absurd cc
keyword_is_word true k.Minus e = absurd cc
keyword_is_word true k.Star e = absurd cc
keyword_is_word true k.Slash e = absurd cc
keyword_is_word true k.Equal e = absurd cc
keyword_is_word true k.NotEqual e = absurd cc
keyword_is_word true k.Less e = absurd cc
keyword_is_word true k.LessOrEqual e = absurd cc
keyword_is_word true k.Greater e = absurd cc
keyword_is_word true k.GreaterOrEqual e = absurd cc
keyword_is_word true k.Assign e = absurd cc
keyword_is_word true k.Bang e = absurd cc
keyword_is_word true k.Tick e = absurd cc
keyword_is_word true k.AnnexOpen e = absurd cc
keyword_is_word true k.AnnexClose e = absurd cc
keyword_is_word true _ e = refl
keyword_is_word false k.Semicolon e = absurd cc
keyword_is_word false k.Colon e = absurd cc
keyword_is_word false k.Comma e = absurd cc
keyword_is_word false k.Dot e = absurd cc
keyword_is_word false k.Range e = absurd cc
keyword_is_word false k.Scope e = absurd cc
keyword_is_word false k.Becomes e = absurd cc
keyword_is_word false k.Appends e = absurd cc
keyword_is_word false k.Arrow e = absurd cc
keyword_is_word false k.GuardOpen e = absurd cc
keyword_is_word false k.GuardClose e = absurd cc
keyword_is_word false k.BraceOpen e = absurd cc
keyword_is_word false k.BraceClose e = absurd cc
keyword_is_word false k.ParenOpen e = absurd cc
keyword_is_word false k.ParenClose e = absurd cc
keyword_is_word false k.BracketOpen e = absurd cc
keyword_is_word false k.BracketClose e = absurd cc
keyword_is_word false k.Plus e = absurd cc
keyword_is_word false k.Minus e = absurd cc
keyword_is_word false k.Star e = absurd cc
keyword_is_word false k.Slash e = absurd cc
keyword_is_word false k.Equal e = absurd cc
keyword_is_word false k.NotEqual e = absurd cc
keyword_is_word false k.Less e = absurd cc
keyword_is_word false k.LessOrEqual e = absurd cc
keyword_is_word false k.Greater e = absurd cc
keyword_is_word false k.GreaterOrEqual e = absurd cc
keyword_is_word false k.Assign e = absurd cc
keyword_is_word false k.Bang e = absurd cc
keyword_is_word false k.Tick e = absurd cc
keyword_is_word false k.AnnexOpen e = absurd cc
keyword_is_word false k.AnnexClose e = absurd cc
keyword_is_word false _ e = refl

pub record Lexed (r : Reading) (kind : PlainTerminal) (rest : List ℕ) : Type 0 where
  pub class : TokenKind
  pub taken : (at : ℕ) → first r at (kind_text kind ++ rest) ≡ Taken class (length (kind_text kind))
  pub some : 0 < length (kind_text kind)
  pub read : class_kind (is_inside r) class (kind_text kind) ≡ kind
  pub goes : after r class (kind_text kind) ≡ behind r kind
  pub inside : inside_behind (is_inside r) class ≡ is_inside (behind r kind)
  pub inner : (b : Bool) → inside_behind b class ≡ b

-- neither end of an annex body
abbrev pub IsPlain : PlainTerminal → Type 0
IsPlain kind = (kind ≡ mark k.AnnexOpen → ⊥) × (kind ≡ mark k.AnnexClose → ⊥)

word_some : (b : List ℕ) → is_word b ≡ true → 0 < length b
word_some [] e = absurd cc
word_some (c ∷ b) e = omega arith

mark_some : (m : Mark) → 0 < length (mark_text m)
mark_some k.Package = omega arith
mark_some _ = omega arith

-- how a text is read after a token class other than the two ends of an annex body
abbrev IsInner : TokenKind → Type 0
IsInner class = (b : Bool) → inside_behind b class ≡ b

named : (b : Bool) → is_inside (if b then AfterName else Outside) ≡ false
named true = refl
named false = refl

pub after_inside : (r : Reading) (class : TokenKind) (b : List ℕ) → is_inside (after r class b) ≡ is_inside r
after_inside Inside class b = refl
after_inside Outside Word b = named (str_eq_ignore_ascii_case b (codes "behavior_specification"))
after_inside Outside _ b = refl
after_inside AfterName Word b = named (str_eq_ignore_ascii_case b (codes "behavior_specification"))
after_inside AfterName _ b = refl

stays : (r : Reading) (class : TokenKind) (kind : PlainTerminal) → IsInner class
    → after r class (kind_text kind) ≡ behind r kind
    → inside_behind (is_inside r) class ≡ is_inside (behind r kind)
stays r class kind inner e = inner (is_inside r) ∙ sym (after_inside r class (kind_text kind)) ∙ ap is_inside e

pub word_then : (r : Reading) (b : List ℕ) → after r Word b ≡ behind r (word b)
word_then Outside b = refl
word_then AfterName b = refl
word_then Inside b = refl

pub keyword_then : (r : Reading) (m : Mark) → keyword_of (is_inside r) (mark_text m) ≡ Some m
    → after r Word (mark_text m) ≡ behind r (mark m)
keyword_then Outside k.AnnexOpen e = absurd cc
keyword_then Outside _ e = refl
keyword_then AfterName k.AnnexOpen e = absurd cc
keyword_then AfterName _ e = refl
keyword_then Inside k.AnnexClose e = absurd cc
keyword_then Inside _ e = refl

pub symbol_then : (r : Reading) (m : Mark) → symbol_of (mark_text m) ≡ Some m
    → after r Symbol (mark_text m) ≡ behind r (mark m)
symbol_then Outside k.AnnexOpen e = absurd cc
symbol_then Outside _ e = refl
symbol_then AfterName k.AnnexOpen e = absurd cc
symbol_then AfterName _ e = refl
symbol_then Inside k.AnnexClose e = absurd cc
symbol_then Inside _ e = refl

pub whole_then : (r : Reading) (n : ℕ) (b : List ℕ) → after r (Whole (pos n)) b ≡ behind r (whole (pos n))
whole_then Outside n b = refl
whole_then AfterName n b = refl
whole_then Inside n b = refl

pub real_then : (r : Reading) (b : List ℕ) → after r Real b ≡ behind r (real b)
real_then Outside b = refl
real_then AfterName b = refl
real_then Inside b = refl

pub quoted_then : (r : Reading) (b : List ℕ) → after r Quoted b ≡ behind r (quoted b)
quoted_then Outside b = refl
quoted_then AfterName b = refl
quoted_then Inside b = refl

extends_nothing : (m : Mark) → extends m 0 ≡ false
extends_nothing k.Colon = refl
extends_nothing _ = refl

symbol_ends : (m : Mark) (rest : List ℕ) → Ends (mark m) rest → extends m (get_or rest 0 0) ≡ false
symbol_ends m [] e = extends_nothing m
symbol_ends m (h ∷ t) e = (or_parts (is_word (mark_text m) && is_in_word h) (extends m h) e).1

keyword_stops : (m : Mark) (rest : List ℕ) → is_word (mark_text m) ≡ true → Ends (mark m) rest
    → stops is_in_word rest ≡ true
keyword_stops m rest w e =
    ends_stops (mark m) is_in_word rest
    (λ h g. sym (ap (λ b. b && is_in_word h) w)
    ∙ (or_parts (is_word (mark_text m) && is_in_word h) (extends m h) g).0) e

pub lexed : (r : Reading) (kind : PlainTerminal) (rest : List ℕ) → IsPossibleTerminal r kind → IsPlain kind
    → Ends kind rest
    → Lexed r kind rest
lexed r _ rest (a_word _ b w h) plain e = record {
  class = Word;
  taken = λ at. word_first r at b rest w (ends_stops (word b) is_in_word rest (λ c g. g) e);
  some = word_some b w;
  read = ap (word_kind b) h;
  goes = word_then r b;
  inside = stays r Word (word b) (λ x. refl) (word_then r b);
  inner = λ x. refl;
}
lexed r _ rest (a_number _ n h) plain e = record {
  class = Whole (pos n);
  taken = λ at. number_first r at n rest h (ends_stops (whole (pos n)) in_number rest (λ c g. g) e);
  some = number_some n h;
  read = refl;
  goes = whole_then r n (fmt.decimal n);
  inside = stays r (Whole (pos n)) (whole (pos n)) (λ x. refl) (whole_then r n (fmt.decimal n));
  inner = λ x. refl;
}
lexed r _ rest (a_real _ b h) plain e = record {
  class = Real;
  taken = λ at. real_first r at b rest h (ends_stops (real b) is_ascii_digit rest (λ c g. g) e);
  some = let s = ap (length {A = ℕ}) h.spelled in let l = length-append h.whole (46 ∷ h.fraction) in omega arith;
  read = refl;
  goes = real_then r b;
  inside = stays r Real (real b) (λ x. refl) (real_then r b);
  inner = λ x. refl;
}
lexed r _ rest (a_string _ b h u c) plain e = record {
  class = Quoted;
  taken = λ at. string_first r at b rest h;
  some = let s = ap (length {A = ℕ}) h.spelled in omega arith;
  read = refl;
  goes = quoted_then r b;
  inside = stays r Quoted (quoted b) (λ x. refl) (quoted_then r b);
  inner = λ x. refl;
}
lexed _ _ rest (an_annex b h u) plain e = record {
  class = Unread;
  taken = λ at. unread_first at b rest h;
  some = let s = ap (length {A = ℕ}) h.spelled in omega arith;
  read = refl;
  goes = refl;
  inside = refl;
  inner = λ x. refl;
}
lexed r _ rest (a_keyword _ m h) plain e = let w = keyword_is_word (is_inside r) m h in record {
  class = Word;
  taken = λ at. word_first r at (mark_text m) rest w (keyword_stops m rest w e);
  some = mark_some m;
  read = ap (word_kind (mark_text m)) h;
  goes = keyword_then r m h;
  inside = stays r Word (mark m) (λ x. refl) (keyword_then r m h);
  inner = λ x. refl;
}
lexed r _ rest (a_symbol _ m h) plain e = record {
  class = Symbol;
  taken = λ at. symbol_first m r at rest h (symbol_ends m rest e);
  some = mark_some m;
  read = ap (symbol_kind (mark_text m)) h;
  goes = symbol_then r m h;
  inside = stays r Symbol (mark m) (λ x. refl) (symbol_then r m h);
  inner = λ x. refl;
}
lexed _ _ rest opens plain e = absurd (plain.0 refl)
lexed _ _ rest closes plain e = absurd (plain.1 refl)
