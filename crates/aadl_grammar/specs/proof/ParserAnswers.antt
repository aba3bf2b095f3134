-- Results of a parsing function: it accepts the terminals that the machine accepts, and returns the tree or the
-- fault. For the contracts of parsers.
use Rattle.std.specs.Prelude.{ℕ, ◌+◌, ◌≡◌, ◌≤◌, true, false, IfOk, List, [], ◌∷◌, ◌++◌, drop, Bool, Result, Ok, Err}
use Rattle.aadl_tree.specs.declared.mark.Mark.{Mark}
use Rattle.aadl_tree.specs.Terminals.{PlainTerminal, word, mark, PlacedTerminal}
use Rattle.aadl_tree.specs.SpellingParts.{SpellingPart, Written}
use Rattle.aadl_tree.specs.Names.{Identifier}
use Rattle.aadl_tree.specs.declared.nesting_limit.TheConstants.{GREATEST_NESTING}
use Rattle.aadl_grammar.specs.proof.GrammarSymbols.{Class, the, Symbol, only, Row}
use Rattle.aadl_grammar.specs.proof.StackMachine.{Stack, fits, takes, move, depth, Fate, syntax_at, deep_at, fate}
use Rattle.aadl_grammar.specs.declared.terminal.Terminal.{Terminal}
use Rattle.aadl_grammar.specs.declared.parse_input.Reader.{Reader}
use Rattle.aadl_grammar.specs.declared.parse_fault.ParseFault.{ParseFault}
use Rattle.aadl_grammar.specs.declared.parse_fault.ParseFault.TheVariants.{Memory, Syntax, TooDeep}
use Rattle.aadl_grammar.specs.proof.TerminalViews.{spot_of, spots_of, is_word_at}
use Rattle.aadl_grammar.specs.declared.terminal.TerminalClass.TheVariants as t

-- the terminals from this index on
unfoldable pub here : Reader → ℕ → List PlacedTerminal
here r at = spots_of r.text.now (drop at r.terminals.now)

-- the list begins with this terminal
pub record IsFirst (r : Reader) (at : ℕ) (x : Terminal) (next : ℕ) : Type 0 where
  pub whole : here r at ≡ spot_of r.text.now x ∷ here r next
  pub word : x.kind ≡ t.Word → is_word_at r.text.now x ≡ true

abbrev pub spot : PlainTerminal → ℕ → PlacedTerminal
spot kind at = record { kind = kind; at = at }

-- the list is a terminal of this kind and then these terminals
pub record At (kind : PlainTerminal) (ss rest : List PlacedTerminal) : Type 0 where
  pub at : ℕ
  pub whole : ss ≡ spot kind at ∷ rest

abbrev pub AtMark : Mark → List PlacedTerminal → List PlacedTerminal → Type 0
AtMark m ss rest = At (mark m) ss rest

-- the list begins with this word, at its place
pub record AtWord (x : Identifier ℕ) (ss rest : List PlacedTerminal) : Type 0 where
  pub whole : ss ≡ spot (word x.spelling) x.at ∷ rest

-- the list begins with some word
pub record StartsWord (ss : List PlacedTerminal) : Type 0 where
  pub spelling : List ℕ
  pub at : ℕ
  pub rest : List PlacedTerminal
  pub whole : ss ≡ spot (word spelling) at ∷ rest

-- the list does not begin with a terminal of the class
abbrev pub Misses : Class → List PlacedTerminal → Type 0
Misses c [] = Unit {0}
Misses c (x ∷ ss) = fits c x.kind ≡ false

-- no row of the symbol has the class of the first terminal
abbrev pub MissAll : List Row → List PlacedTerminal → Type 0
MissAll [] ss = Unit {0}
MissAll (r ∷ rs) ss = Misses r.first ss × MissAll rs ss

-- the symbol takes the first terminal
pub record Begins (x : Symbol) (ss : List PlacedTerminal) : Type 0 where
  pub kind : PlainTerminal
  pub rest : List PlacedTerminal
  pub wanted : List Symbol
  pub first : At kind ss rest
  pub moves : move x kind ≡ takes wanted

-- the fault that the machine reports; nothing if memory ran out
abbrev pub FailsAs : Fate → ParseFault → Type 0
FailsAs was Memory = Unit {0}
FailsAs was (Syntax at) = was ≡ syntax_at at
FailsAs was (TooDeep at) = was ≡ deep_at at

-- After success, the fate is the fate of the stack below on the remaining terminals. After failure, the fault is the
-- fate.
abbrev pub RunsTo : {X : Type 0} → (X → ℕ) → Reader → ℕ → Stack → Fate → Result X ParseFault → Type 0
RunsTo next r outer below was (Ok x) = was ≡ fate outer r.end below (here r (next x))
RunsTo next r outer below was (Err e) = FailsAs was e

-- `before` openers are open before a part that is read with this room; before a part without openers, any number may
-- be open
abbrev pub Room : ℕ → ℕ → Type 0
Room room before = before + room ≡ GREATEST_NESTING

abbrev pub AnyRoom : ℕ → Type 0
AnyRoom before = before ≤ GREATEST_NESTING

-- the room admits one more opener, or this opener exceeds the nesting limit
abbrev pub Deepens : ℕ → ℕ → Result ℕ ParseFault → Type 0
Deepens room at (Ok inner) = room ≡ inner + 1
Deepens room at (Err e) = (room ≡ 0) × (e ≡ TooDeep at)

-- whether the list begins with the keyword
abbrev pub IsMarked : Mark → Bool → List PlacedTerminal → List PlacedTerminal → Type 0
IsMarked m true ss rest = AtMark m ss rest
IsMarked m false ss rest = Misses (the m) ss × (rest ≡ ss)

-- the terminals up to the remaining ones spell these parts
pub record Reads (ps : List (SpellingPart ℕ)) (ss rest : List PlacedTerminal) : Type 0 where
  pub written : Written ps ss rest

-- The contract of a function that parses the expected symbols: it follows the machine and returns the tree that it
-- read.
pub record Parses {X : Type 0} (r : Reader) (Allowed : ℕ → Type 0) (wanted : Stack) (parts : X → List (SpellingPart ℕ))
    (at : ℕ)
    (result : Result (X × ℕ) ParseFault) : Type 0 where
  pub runs : (outer : ℕ) (below : Stack) → Allowed (outer + depth (wanted ++ below))
      → RunsTo (λ (y : X × ℕ). y.1) r outer below (fate outer r.end (wanted ++ below) (here r at)) result
  pub reads : IfOk result (λ y. Reads (parts y.0) (here r at) (here r y.1))

-- the parsing contract of one keyword or symbol
pub record Expects (r : Reader) (m : Mark) (at : ℕ) (result : Result ℕ ParseFault) : Type 0 where
  pub runs : (outer : ℕ) (below : Stack) → AnyRoom (outer + depth (only m ∷ below))
      → RunsTo (λ (y : ℕ). y) r outer below (fate outer r.end (only m ∷ below) (here r at)) result
  pub reads : IfOk result (λ next. AtMark m (here r at) (here r next))
