-- Results of a parsing function that reads a list with a given function for each item. For the contracts of parsers.
use Rattle.std.specs.Prelude.{ℕ, ◌+◌, ◌≡◌, ◌≤◌, ◌<◌, IfOk, List, [], ◌∷◌, ◌++◌, flat_map, length, Result, Option, Some}
use Rattle.std.specs.Prelude.{None, true, false}
use Rattle.std.specs.Global.{Vec}
use Rattle.aadl_tree.specs.declared.mark.Mark.{Mark}
use Rattle.aadl_tree.specs.Terminals.{PlacedTerminal}
use Rattle.aadl_tree.specs.SpellingParts.{SpellingPart, behind}
use Rattle.aadl_tree.specs.declared.nesting_limit.TheConstants.{GREATEST_NESTING}
use Rattle.aadl_grammar.specs.proof.GrammarSymbols.{a_word, the, Symbol}
use Rattle.aadl_grammar.specs.proof.ParseTable as table
use Rattle.aadl_grammar.specs.proof.ParseTable.{on, rows, section_rows, can_omit}
use Rattle.aadl_grammar.specs.proof.StackMachine.{Stack, closes, depth, fate}
use Rattle.aadl_grammar.specs.declared.parse_input.Reader.{Reader}
use Rattle.aadl_grammar.specs.declared.parse_fault.ParseFault.{ParseFault}
use Rattle.aadl_grammar.specs.proof.ParserAnswers.{here, AtMark, StartsWord, Misses, Reads, RunsTo, Parses, AnyRoom}
use Rattle.aadl_grammar.specs.proof.ParserAnswers.{Room}

-- a condition on the number of openers open before a part: within the room, or any number
abbrev pub Allows : Option ℕ → ℕ → Type 0
Allows None = AnyRoom
Allows (Some room) = Room room

-- Another item follows: after its mark or, if items have no mark, with a word.
abbrev pub Follows : Option Mark → List PlacedTerminal → List PlacedTerminal → Type 0
Follows (Some m) ss start = AtMark m ss start
Follows None ss start = StartsWord ss × (start ≡ ss)

-- no other item follows
abbrev pub NoneFollows : Option Mark → List PlacedTerminal → Type 0
NoneFollows (Some m) ss = Misses (the m) ss
NoneFollows None ss = Misses a_word ss

-- an item's parts, after its mark if it has one
abbrev pub with_mark : {X : Type 0} → Option Mark → (X → List (SpellingPart ℕ)) → X → List (SpellingPart ℕ)
with_mark (Some m) parts = behind m parts
with_mark None parts = parts

-- The machine reads the symbol as a list of items, which close no opener.
pub record IsList (before : Option Mark) (item list : Symbol) : Type 0 where
  pub goes_on : (outer end : ℕ) (below : Stack) (ss start : List PlacedTerminal) → Follows before ss start
      → outer + depth (list ∷ below) ≤ GREATEST_NESTING
      → fate outer end (list ∷ below) ss ≡ fate outer end (item ∷ list ∷ below) start
  pub stops : (outer end : ℕ) (below : Stack) (ss : List PlacedTerminal) → NoneFollows before ss
      → fate outer end (list ∷ below) ss ≡ fate outer end below ss
  pub no_closer : closes item ≡ 0

-- The machine reads the symbol as a section of a list: nothing, or the keyword and then `none ;` or the list's items.
pub record IsSection (keyword : Mark) (item list symbol : Symbol) : Type 0 where
  pub opened : Symbol
  pub own_rows : rows symbol ≡ on keyword (opened ∷ []) ∷ []
  pub opened_rows : rows opened ≡ section_rows (table.behind (list ∷ []) (rows item))
  pub may_omit : can_omit symbol ≡ true
  pub opened_stays : can_omit opened ≡ false
  pub item_stays : can_omit item ≡ false
  pub no_closers : closes symbol + closes opened + closes list ≡ 0

-- the results that a function may return at each place
abbrev pub Answers : Type 0 → Type 1
Answers X = ℕ → Result (X × ℕ) ParseFault → Type 0

-- the function reads at least one terminal
abbrev pub Advances : {X : Type 0} → Reader → Answers X → Type 0
Advances {X} r answers = (at : ℕ) (result : Result (X × ℕ) ParseFault) → answers at result
    → IfOk result (λ y. length (here r y.1) < length (here r at))

-- The symbols of a list and of its items, the parts of an item, and the contract of the item's parsing function.
pub record ItemsOf {X : Type 0} (r : Reader) (before : Option Mark) (answers : Answers X) : Type 0 where
  pub item : Symbol
  pub list : Symbol
  pub lists : IsList before item list
  pub parts : X → List (SpellingPart ℕ)
  pub allowed : Option ℕ
  pub each : (at : ℕ) (result : Result (X × ℕ) ParseFault) → answers at result
      → Parses r (Allows allowed) (item ∷ []) parts at result

-- the new list is the old one followed by the items read here
pub record Grows {X : Type 0} (parts : X → List (SpellingPart ℕ)) (old new : List X)
    (ss rest : List PlacedTerminal) : Type 0 where
  pub more : List X
  pub whole : new ≡ old ++ more
  pub reads : Reads (flat_map parts more) ss rest

-- The contract of a function that parses the rest of a list after the items already found, for any symbols of the
-- list and its items.
pub record ParsesMore {X : Type 0} (r : Reader) (before : Option Mark) (answers : Answers X) (found : List X) (at : ℕ)
    (result : Result (Vec X × ℕ) ParseFault) : Type 0 where
  pub runs : (of : ItemsOf r before answers) (outer : ℕ) (below : Stack)
      → Allows of.allowed (outer + depth (of.list ∷ below))
      → RunsTo (λ (y : Vec X × ℕ). y.1) r outer below (fate outer r.end (of.list ∷ below) (here r at)) result
  pub reads : (of : ItemsOf r before answers)
      → IfOk result (λ y. Grows (with_mark before of.parts) found y.0.items (here r at) (here r y.1))
