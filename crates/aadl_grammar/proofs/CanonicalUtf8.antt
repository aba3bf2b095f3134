-- The canonical text of possible terminals is UTF-8.
use Rattle.std.proofs.Common.{◌≡◌, ℕ, suc, zero, Bool, true, ◌&&◌, ◌||◌, ◌==◌, ◌∙◌, ap, refl, List, [], ◌∷◌, ◌++◌}
use Rattle.std.proofs.Common.{arith, inl, inr}
use Rattle.std.specs.Prelude.{nat_lt, nat_le}
use Rattle.std.specs.List.{list_all}
use Rattle.std.specs.Char.{is_ascii_alphabetic, is_ascii_digit}
use Rattle.std.specs.Fmt as fmt
use Rattle.std.specs.Str.{IsUtf8, IsAscii}
use Rattle.std.proofs.lemmas.Bool.{or_cases, eqb-true, leb-true, ltb-true, lt-ltb}
use Rattle.std.proofs.lemmas.Str.{IsUtf8-append, IsUtf8-from_ascii}
use Rattle.std.specs.Cmp.{first_so, second_so}
use Rattle.aadl_lex.specs.declared.rules.Reading.{Reading}
use Rattle.aadl_lex.specs.Rules.{is_blank}
use Rattle.aadl_tree.specs.declared.mark.Mark.{Mark}
use Rattle.aadl_tree.specs.declared.mark.Mark.TheVariants as k
use Rattle.aadl_tree.specs.KeywordsAndSymbols.{mark_text}
use Rattle.aadl_tree.specs.Terminals.{PlainTerminal}
use Rattle.aadl_tree.specs.CanonicalText.{kind_text, line_end, between, text_behind}
use Rattle.aadl_lex.specs.proof.TokenSpellings.{IsReal}
use Rattle.aadl_grammar.proofs.LiteralAndAnnexLexing.{number_digits}
use Rattle.aadl_grammar.proofs.PossibleTerminals.{IsPossibleTerminal, a_word, a_number, a_real, a_string, an_annex}
use Rattle.aadl_grammar.proofs.PossibleTerminals.{a_keyword}
use Rattle.aadl_grammar.proofs.PossibleTerminals.{a_symbol, opens, closes, behind, ArePossibleTerminals}
use Rattle.aadl_grammar.proofs.NoAnnexEnds.{all_weaker, all_append}
use Rattle.aadl_grammar.proofs.TextPiecesAndGaps.{is_gap, gap_blank}
use Rattle.aadl_grammar.proofs.TerminalViews.{word_is_text}

abbrev low : ℕ → Bool
low c = nat_lt c 128

low_ascii : (w : List ℕ) → list_all low w ≡ true → IsAscii w
low_ascii [] e i = omega arith
low_ascii (c ∷ w) e zero = ltb-true c 128 (first_so (low c) _ e)
low_ascii (c ∷ w) e (suc i) = low_ascii w (second_so (low c) _ e) i

low_utf8 : (w : List ℕ) → list_all low w ≡ true → IsUtf8 w
low_utf8 w e = IsUtf8-from_ascii w (low_ascii w e)

digit_low : (c : ℕ) → is_ascii_digit c ≡ true → low c ≡ true
digit_low c d = let high = leb-true c 57 (second_so (nat_le 48 c) _ d) in lt-ltb c 128 (omega arith)

letter_low : (c : ℕ) → is_ascii_alphabetic c ≡ true → low c ≡ true
letter_low c l = elim (or_cases (nat_le 65 c && nat_le c 90) _ l) [
  | inl a ↦ (let high = leb-true c 90 (second_so (nat_le 65 c) _ a) in lt-ltb c 128 (omega arith))
  | inr a ↦ (let high = leb-true c 122 (second_so (nat_le 97 c) _ a) in lt-ltb c 128 (omega arith))
]

one_low : (c d : ℕ) → (c == d) ≡ true → low d ≡ true → low c ≡ true
one_low c d e h = ap low (eqb-true c d e) ∙ h

blank_low : (c : ℕ) → is_blank c ≡ true → low c ≡ true
blank_low c b = elim (or_cases ((c == 32 || c == 9) || c == 10) (c == 13) b) [
  | inl a ↦ elim (or_cases (c == 32 || c == 9) (c == 10) a) [
    | inl d ↦ elim (or_cases (c == 32) (c == 9) d) [ inl s ↦ one_low c 32 s refl | inr t ↦ one_low c 9 t refl ]
    | inr l ↦ one_low c 10 l refl
  ]
  | inr r ↦ one_low c 13 r refl
]

mark_utf8 : (m : Mark) → IsUtf8 (mark_text m)
mark_utf8 k.Package = low_utf8 (mark_text k.Package) refl
mark_utf8 m = low_utf8 (mark_text m) refl

real_utf8 : (b : List ℕ) → IsReal b → IsUtf8 b
real_utf8 b h =
    low_utf8 b (ap (list_all low) h.spelled
    ∙ all_append low h.whole (46 ∷ h.fraction) (all_weaker is_ascii_digit low h.whole digit_low h.whole_digits)
    (all_weaker is_ascii_digit low h.fraction digit_low h.fraction_digits))

kind_utf8 : (r : Reading) (kind : PlainTerminal) → IsPossibleTerminal r kind → IsUtf8 (kind_text kind)
kind_utf8 r _ (a_word _ b w h) = word_is_text b w
kind_utf8 r _ (a_number _ n h) =
    low_utf8 (fmt.decimal n) (all_weaker is_ascii_digit low (fmt.decimal n) digit_low (number_digits n h))
kind_utf8 r _ (a_real _ b h) = real_utf8 b h
kind_utf8 r _ (a_string _ b h u c) = u
kind_utf8 _ _ (an_annex b h u) = u
kind_utf8 r _ (a_keyword _ m h) = mark_utf8 m
kind_utf8 r _ (a_symbol _ m h) = mark_utf8 m
kind_utf8 _ _ opens = mark_utf8 k.AnnexOpen
kind_utf8 _ _ closes = mark_utf8 k.AnnexClose

pub text_utf8 : (r : Reading) (p : PlainTerminal) (ks : List PlainTerminal) → ArePossibleTerminals r ks
    → IsUtf8 (text_behind p ks)
text_utf8 r p [] said = low_utf8 line_end refl
text_utf8 r p (kind ∷ ks) (said, saids) =
    IsUtf8-append (between p kind) (kind_text kind ++ text_behind kind ks)
    (low_utf8 (between p kind)
    (all_weaker is_blank low (between p kind) blank_low (gap_blank (between p kind) (is_gap p kind))))
    (IsUtf8-append (kind_text kind) (text_behind kind ks) (kind_utf8 r kind said)
    (text_utf8 (behind r kind) kind ks saids))
