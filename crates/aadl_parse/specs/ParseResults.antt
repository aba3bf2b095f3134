-- The result of parsing a text: its only tree, or its fault with a position.
use Rattle.std.specs.Prelude.{ℕ, ◌≡◌, ◌≢◌, List}
use Rattle.std.specs.Str.{IsUtf8}
use Rattle.aadl_lex.specs.TokensAndFirstFaults.{IsFaultOf}
use Rattle.aadl_tree.specs.Declarations.{PackageTree}
use Rattle.aadl_tree.specs.TextTreesAndFaults.{IsTreeOf, StopsAt, NestsAt}
use Rattle.aadl_grammar.specs.declared.parse_fault.ParseFault.{ParseFault}
use Rattle.aadl_parse.specs.declared.text_fault.TextFault.{TextFault}
use Rattle.aadl_parse.specs.declared.text_fault.TextFault.TheVariants.{Lex, Memory, Syntax, TooDeep}
use Rattle.aadl_lex.specs.declared.fault.LexFault.TheVariants as lexical
use Rattle.aadl_grammar.specs.declared.parse_fault.ParseFault.TheVariants as parsing

-- This is the tree of the text, and there is no other.
pub record IsOnlyTreeOf (text : List ℕ) (tree : PackageTree ℕ) : Type 0 where
  pub given : IsTreeOf text tree
  pub only : (other : PackageTree ℕ) → IsTreeOf text other → other ≡ tree

-- The text has no tree, and this is the reason. On an allocation failure, only that the text is UTF-8 is stated.
abbrev pub IsFaultOfText : List ℕ → TextFault → Type 0
IsFaultOfText text (Lex fault) = (fault ≢ lexical.Memory) × IsFaultOf text fault
IsFaultOfText text (Syntax at) = StopsAt text at
IsFaultOfText text (TooDeep at) = NestsAt text at
IsFaultOfText text Memory = IsUtf8 text

-- the fault of the tokens as a fault of the text
abbrev pub of_parse : ParseFault → TextFault
of_parse (parsing.Syntax at) = Syntax at
of_parse (parsing.TooDeep at) = TooDeep at
of_parse parsing.Memory = Memory
