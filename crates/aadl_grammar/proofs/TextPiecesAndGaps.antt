-- Consecutive pieces of a text, and the gaps of blanks between them.
use Rattle.std.proofs.Common.{◌≡◌, ℕ, ◌+◌, ◌-◌, ◌<◌, Bool, true, false, ◌||◌, ◌∙◌, ap, subst, refl, List, [], ◌∷◌, ◌++◌}
use Rattle.std.proofs.Common.{length, length-append, take, drop, arith, Some}
use Rattle.std.specs.Prelude.{codes, if◌then◌else◌}
use Rattle.std.specs.List.{list_all}
use Rattle.std.proofs.Math.Seq.{drop-append_seam, take-append_seam, take-append-add}
use Rattle.std.proofs.lemmas.List.{length-drop, drop-take}
use Rattle.list_lemmas.proofs.ListOperations.{drop_add}
use Rattle.aadl_lex.specs.declared.token.Token.{Token}
use Rattle.aadl_lex.specs.declared.token.TokenKind.{TokenKind}
use Rattle.aadl_lex.specs.declared.rules.Reading.{Reading}
use Rattle.aadl_lex.specs.Rules.{is_blank, close_from, first}
use Rattle.aadl_lex.specs.TokensAndFirstFaults.{token, bytes_of, Lexes, skips}
use Rattle.aadl_tree.specs.Terminals.{PlainTerminal}
use Rattle.aadl_tree.specs.CanonicalText.{holds_left, holds_right, ends_line, line_end, between}
use Rattle.aadl_grammar.proofs.WordAndSymbolLexing.{space_first, line_end_first}

pub data IsGap : List ℕ → Type 0 where
  none : IsGap []
  space : IsGap (codes " ")
  line : IsGap line_end

gap_by : (a b : Bool) → IsGap (if a then [] else if b then line_end else codes " ")
gap_by true b = none
gap_by false true = line
gap_by false false = space

pub is_gap : (p kind : PlainTerminal) → IsGap (between p kind)
is_gap p kind = gap_by (holds_right p || holds_left kind) (ends_line p)

pub gap_blank : (gap : List ℕ) → IsGap gap → list_all is_blank gap ≡ true
gap_blank _ none = refl
gap_blank _ space = refl
gap_blank _ line = refl

-- a piece exists, so its place is in the text
pub stands_within : (text : List ℕ) (at : ℕ) (w s : List ℕ) → 0 < length w → drop at text ≡ w ++ s → at < length text
stands_within text at w s some e =
    let a = length-drop at text in let b = ap (length {A = ℕ}) e in let c = length-append w s in omega arith

-- the text after a piece
pub drop_past : (text : List ℕ) (at : ℕ) (w s : List ℕ) → drop at text ≡ w ++ s → drop (at + length w) text ≡ s
drop_past text at w s e = drop_add at (length w) text ∙ ap (drop (length w)) e ∙ drop-append_seam w s

-- a piece of a text that ends some bytes after the piece
pub drop_cut : (text : List ℕ) (at : ℕ) (w s : List ℕ) (m : ℕ) → drop at text ≡ w ++ s
    → drop at (take (at + (length w + m)) text) ≡ w ++ take m s
drop_cut text at w s m e = drop-take at (length w + m) text ∙ ap (take (length w + m)) e ∙ take-append-add w s m

-- blanks before tokens
pub gap_skipped : (r : Reading) (text : List ℕ) (at : ℕ) (ts : List Token) (gap s : List ℕ) → IsGap gap
    → drop at text ≡ gap ++ s → Lexes r text (at + length gap) ts → Lexes r text at ts
gap_skipped r text at ts _ s none e l = subst (λ (n : ℕ). Lexes r text n ts) (let g : at + 0 ≡ at = omega arith in g) l
gap_skipped r text at ts _ s space e l =
    skips r text at 1 ts (stands_within text at (codes " ") s (omega arith) e)
    (ap (first r at) e ∙ space_first r at s) l
gap_skipped r text at ts _ s line e l =
    skips r text at 1 ts (stands_within text at line_end s (omega arith) e)
    (ap (first r at) e ∙ line_end_first r at s) l

-- the bytes of a token are the piece at its place
pub token_bytes : (text : List ℕ) (class : TokenKind) (at : ℕ) (w s : List ℕ) → drop at text ≡ w ++ s
    → bytes_of text (token class at (length w)) ≡ w
token_bytes text class at w s e =
    ap (λ n. take n (drop at text)) (let g : at + length w - at ≡ length w = omega arith in g) ∙ ap (take (length w)) e
    ∙ take-append_seam w s

pub close_gap : (gap s : List ℕ) → IsGap gap → close_from 0 (gap ++ 42 ∷ 42 ∷ 125 ∷ s) ≡ Some (length gap)
close_gap _ s none = refl
close_gap _ s space = refl
close_gap _ s line = refl
