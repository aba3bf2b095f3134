-- The stack machine of the grammar. Its state is a stack of expected symbols, the topmost first; it consumes one
-- terminal in each step.
use Rattle.std.specs.Prelude.{ℕ, ◌+◌, ◌==◌, nat_lt, Bool, true, ◌&&◌, List, [], ◌∷◌, ◌++◌, Option, Some, None}
use Rattle.std.specs.Prelude.{if◌then◌else◌}
use Rattle.aadl_tree.specs.declared.mark.Mark.{Mark}
use Rattle.aadl_tree.specs.proof.MarkNumbers.{mark_number}
use Rattle.aadl_tree.specs.Terminals.{PlainTerminal, word, whole, real, quoted, unread, mark, other, PlacedTerminal}
use Rattle.aadl_tree.specs.declared.nesting_limit.TheConstants.{GREATEST_NESTING}
use Rattle.aadl_grammar.specs.proof.GrammarSymbols.{Class, a_word, a_whole, a_real, a_quoted, an_unread, the, Symbol}
use Rattle.aadl_grammar.specs.proof.GrammarSymbols.{Row}
use Rattle.aadl_grammar.specs.proof.ParseTable.{rows, can_omit}
use Rattle.aadl_tree.specs.declared.mark.Mark.TheVariants as k
use Rattle.aadl_grammar.specs.proof.GrammarSymbols as s

-- each class has its own number; the number of a keyword or symbol is that of its mark
abbrev pub class_number : Class → ℕ
class_number a_word = 100
class_number a_whole = 101
class_number a_real = 102
class_number a_quoted = 103
class_number an_unread = 104
class_number (the m) = mark_number m

abbrev pub kind_number : PlainTerminal → ℕ
kind_number (word bytes) = 100
kind_number (whole n) = 101
kind_number (real bytes) = 102
kind_number (quoted bytes) = 103
kind_number (unread bytes) = 104
kind_number (other bytes) = 105
kind_number (mark m) = mark_number m

-- the terminal has this class
abbrev pub fits : Class → PlainTerminal → Bool
fits c kind = kind_number kind == class_number c

abbrev pub Stack : Type 0
Stack = List Symbol

-- What a symbol does at a terminal: it takes the terminal and expects more symbols, it is omitted, or it refuses the
-- terminal since no text continues with it.
pub data Move : Type 0 where
  takes : List Symbol → Move
  omitted : Move
  refuses : Move

abbrev pub move_by : List Row → Bool → PlainTerminal → Move
move_by [] omits kind = if omits then omitted else refuses
move_by (r ∷ rs) omits kind = if fits r.first kind then takes r.wanted else move_by rs omits kind

unfoldable pub move : Symbol → PlainTerminal → Move
move symbol kind = move_by (rows symbol) (can_omit symbol) kind

abbrev pub chosen : Move → Stack → Option Stack → Option Stack
chosen (takes f) below later = Some (f ++ below)
chosen omitted below later = later
chosen refuses below later = None

-- the stack after the terminal, if a text may continue with it
unfoldable pub stack_after : Stack → PlainTerminal → Option Stack
stack_after [] kind = None
stack_after (x ∷ below) kind = chosen (move x kind) below (stack_after below kind)

-- every symbol of the stack may be omitted
unfoldable pub ends : Stack → Bool
ends [] = true
ends (x ∷ below) = can_omit x && ends below

-- the number of openers that the mark closes
abbrev pub closer : Mark → ℕ
closer k.ParenClose = 1
closer k.BracketClose = 1
closer k.BraceClose = 1
closer k.AnnexClose = 1
closer k.GuardClose = 1
closer _ = 0

abbrev pub closes : Symbol → ℕ
closes (s.only m) = closer m
closes s.end_if = 1
closes s.closing_if = 1
closes _ = 0

-- the number of openers that the symbols of the stack close
unfoldable pub depth : Stack → ℕ
depth [] = 0
depth (x ∷ below) = closes x + depth below

pub data Fate : Type 0 where
  finished : Fate
  syntax_at : ℕ → Fate
  deep_at : ℕ → Fate

abbrev pub fate_after : ℕ → Option Stack → ℕ → (Stack → Fate) → Fate
fate_after outer None at more = syntax_at at
fate_after outer (Some wanted) at more =
    if nat_lt GREATEST_NESTING (outer + depth wanted) then deep_at at else more wanted

-- The fate of the terminals if this stack is expected. The first number is the number of openers open outside; the
-- second is the end of the text.
unfoldable pub fate : ℕ → ℕ → Stack → List PlacedTerminal → Fate
fate outer end wanted [] = if ends wanted then finished else syntax_at end
fate outer end wanted (x ∷ xs) = fate_after outer (stack_after wanted x.kind) x.at (λ next. fate outer end next xs)

-- the stacks for a whole text and for the body of a behaviour annex
abbrev pub whole_package : Stack
whole_package = s.a_package ∷ []

abbrev pub annex_body : Stack
annex_body = s.variables ∷ s.states ∷ s.transitions ∷ []
