-- In a canonical text, the byte after a terminal never continues the terminal's token. For the law that canonical
-- text is read back.
use Rattle.std.proofs.Common.{◌≡◌, ℕ, Bool, true, false, ◌&&◌, ◌||◌, refl, List, [], ◌∷◌, ◌++◌, get_or, inl, inr}
use Rattle.std.specs.Prelude.{codes, if◌then◌else◌}
use Rattle.std.specs.Char.{is_ascii_alphabetic}
use Rattle.std.specs.List.{list_all}
use Rattle.std.proofs.lemmas.Bool.{or_cases}
use Rattle.std.specs.Cmp.{first_so}
use Rattle.aadl_lex.specs.declared.rules.Reading.{Reading}
use Rattle.aadl_lex.specs.Rules.{is_word, is_in_word}
use Rattle.aadl_tree.specs.declared.mark.Mark.{Mark}
use Rattle.aadl_tree.specs.declared.mark.Mark.TheVariants as k
use Rattle.aadl_tree.specs.KeywordsAndSymbols.{mark_text}
use Rattle.aadl_tree.specs.proof.MarkNumbers.{mark_number}
use Rattle.aadl_tree.specs.Terminals.{PlainTerminal, whole, mark}
use Rattle.aadl_tree.specs.CanonicalText.{kind_text, holds_left, holds_right, ends_line, line_end, text_behind}
use Rattle.aadl_grammar.specs.proof.StackMachine.{kind_number}
use Rattle.aadl_grammar.proofs.AdjacencyRules.{may_stand_behind, AreNeighbours}
use Rattle.aadl_grammar.proofs.WordAndSymbolLexing.{other_bytes}
use Rattle.aadl_grammar.proofs.PossibleTerminals.{IsPossibleTerminal, a_word, ArePossibleTerminals}
use Rattle.aadl_grammar.proofs.TerminalRelexing.{goes_on, Ends}

-- a blank continues no token
space_ends : (p : PlainTerminal) → goes_on p 32 ≡ false
space_ends (mark k.Package) = refl
space_ends (mark _) = refl
space_ends _ = refl

line_ends : (p : PlainTerminal) → goes_on p 10 ≡ false
line_ends (mark k.Package) = refl
line_ends (mark _) = refl
line_ends _ = refl

semicolon_meets : (p : PlainTerminal) → may_stand_behind (kind_number p) (mark_number k.Semicolon) ≡ true
    → goes_on p (get_or (mark_text k.Semicolon) 0 0) ≡ false
semicolon_meets (mark k.Package) h = refl
semicolon_meets (mark _) h = refl
semicolon_meets _ h = refl

comma_meets : (p : PlainTerminal) → may_stand_behind (kind_number p) (mark_number k.Comma) ≡ true
    → goes_on p (get_or (mark_text k.Comma) 0 0) ≡ false
comma_meets (mark k.Package) h = refl
comma_meets (mark _) h = refl
comma_meets _ h = refl

parenclose_meets : (p : PlainTerminal) → may_stand_behind (kind_number p) (mark_number k.ParenClose) ≡ true
    → goes_on p (get_or (mark_text k.ParenClose) 0 0) ≡ false
parenclose_meets (mark k.Package) h = refl
parenclose_meets (mark _) h = refl
parenclose_meets _ h = refl

colon_meets : (p : PlainTerminal) → may_stand_behind (kind_number p) (mark_number k.Colon) ≡ true
    → goes_on p (get_or (mark_text k.Colon) 0 0) ≡ false
colon_meets (mark k.Colon) h = absurd cc
colon_meets (mark _) h = refl
colon_meets _ h = refl

scope_meets : (p : PlainTerminal) → may_stand_behind (kind_number p) (mark_number k.Scope) ≡ true
    → goes_on p (get_or (mark_text k.Scope) 0 0) ≡ false
scope_meets (mark k.Colon) h = absurd cc
scope_meets (mark _) h = refl
scope_meets _ h = refl

dot_meets : (p : PlainTerminal) → may_stand_behind (kind_number p) (mark_number k.Dot) ≡ true
    → goes_on p (get_or (mark_text k.Dot) 0 0) ≡ false
dot_meets (whole n) h = absurd cc
dot_meets (mark k.Dot) h = absurd cc
dot_meets (mark _) h = refl
dot_meets _ h = refl

tick_meets : (p : PlainTerminal) → may_stand_behind (kind_number p) (mark_number k.Tick) ≡ true
    → goes_on p (get_or (mark_text k.Tick) 0 0) ≡ false
tick_meets (mark k.Package) h = refl
tick_meets (mark _) h = refl
tick_meets _ h = refl

bang_meets : (p : PlainTerminal) → may_stand_behind (kind_number p) (mark_number k.Bang) ≡ true
    → goes_on p (get_or (mark_text k.Bang) 0 0) ≡ false
bang_meets (mark k.Package) h = refl
bang_meets (mark _) h = refl
bang_meets _ h = refl

left_meets : (p kind : PlainTerminal) (rest : List ℕ) → holds_left kind ≡ true
    → may_stand_behind (kind_number p) (kind_number kind) ≡ true → Ends p (kind_text kind ++ rest)
left_meets p (mark k.Semicolon) rest l h = semicolon_meets p h
left_meets p (mark k.Comma) rest l h = comma_meets p h
left_meets p (mark k.ParenClose) rest l h = parenclose_meets p h
left_meets p (mark k.Colon) rest l h = colon_meets p h
left_meets p (mark k.Scope) rest l h = scope_meets p h
left_meets p (mark k.Dot) rest l h = dot_meets p h
left_meets p (mark k.Tick) rest l h = tick_meets p h
left_meets p (mark k.Bang) rest l h = bang_meets p h
left_meets p (mark _) rest l h = absurd cc
left_meets p _ rest l h = absurd cc

-- no byte continues `(`, `::` and `'`
closed_ends : (m : Mark) → ((h : ℕ) → goes_on (mark m) h ≡ false) → (rest : List ℕ) → Ends (mark m) rest
closed_ends m never [] = tt
closed_ends m never (h ∷ t) = never h

letter_first : (b rest : List ℕ) → is_word b ≡ true → Ends (mark k.Dot) (b ++ rest)
letter_first [] rest w = absurd cc
letter_first (c ∷ b) rest w =
    other_bytes is_ascii_alphabetic c 46
    (first_so (is_ascii_alphabetic c) _ (first_so (is_ascii_alphabetic c && list_all is_in_word (c ∷ b)) _ w)) refl

dot_meets_word : (r : Reading) (kind : PlainTerminal) (rest : List ℕ)
    → may_stand_behind (mark_number k.Dot) (kind_number kind) ≡ true → IsPossibleTerminal r kind
    → Ends (mark k.Dot) (kind_text kind ++ rest)
dot_meets_word r _ rest h (a_word _ b w e) = letter_first b rest w
dot_meets_word r (mark k.Package) rest h s = absurd cc
dot_meets_word r (mark _) rest h s = absurd cc
dot_meets_word r _ rest h s = absurd cc

bang_meets_group : (kind : PlainTerminal) (rest : List ℕ)
    → may_stand_behind (mark_number k.Bang) (kind_number kind) ≡ true
    → Ends (mark k.Bang) (kind_text kind ++ rest)
bang_meets_group (mark k.ParenOpen) rest h = refl
bang_meets_group (mark _) rest h = absurd cc
bang_meets_group _ rest h = absurd cc

right_meets : (r : Reading) (p kind : PlainTerminal) (rest : List ℕ) → holds_right p ≡ true
    → may_stand_behind (kind_number p) (kind_number kind) ≡ true → IsPossibleTerminal r kind
    → Ends p (kind_text kind ++ rest)
right_meets r (mark k.ParenOpen) kind rest g h s = closed_ends k.ParenOpen (λ c. refl) (kind_text kind ++ rest)
right_meets r (mark k.Scope) kind rest g h s = closed_ends k.Scope (λ c. refl) (kind_text kind ++ rest)
right_meets r (mark k.Tick) kind rest g h s = closed_ends k.Tick (λ c. refl) (kind_text kind ++ rest)
right_meets r (mark k.Dot) kind rest g h s = dot_meets_word r kind rest h s
right_meets r (mark k.Bang) kind rest g h s = bang_meets_group kind rest h
right_meets r (mark _) kind rest g h s = absurd cc
right_meets r _ kind rest g h s = absurd cc

apart : (p : PlainTerminal) (ends : Bool) (s : List ℕ) → Ends p ((if ends then line_end else codes " ") ++ s)
apart p true s = line_ends p
apart p false s = space_ends p

gap_ends : (r : Reading) (p kind : PlainTerminal) (rest : List ℕ) (b : Bool) → (holds_right p || holds_left kind) ≡ b
    → may_stand_behind (kind_number p) (kind_number kind) ≡ true → IsPossibleTerminal r kind
    → Ends p ((if b then [] else if ends_line p then line_end else codes " ") ++ (kind_text kind ++ rest))
gap_ends r p kind rest true e h s = elim (or_cases (holds_right p) (holds_left kind) e) [
  | inl g ↦ right_meets r p kind rest g h s
  | inr l ↦ left_meets p kind rest l h
]
gap_ends r p kind rest false e h s = apart p (ends_line p) (kind_text kind ++ rest)

-- The text after a terminal in the canonical text of such terminals does not continue the terminal.
pub ends_behind : (r : Reading) (p : PlainTerminal) (ks : List PlainTerminal) → AreNeighbours (kind_number p) ks
    → ArePossibleTerminals r ks
    → Ends p (text_behind p ks)
ends_behind r p [] near said = line_ends p
ends_behind r p (kind ∷ ks) (near, nears) (said, saids) =
    gap_ends r p kind (text_behind kind ks) (holds_right p || holds_left kind) refl near said
