-- The result of parsing the tokens of a behaviour: its only tree, or the position of its first fault.
use Rattle.std.specs.Prelude.{ℕ, ◌≡◌, List}
use Rattle.aadl_lex.specs.declared.token.Token.{Token}
use Rattle.aadl_tree.specs.Annexes.{AnnexTree}
use Rattle.aadl_tree.specs.TextTreesAndFaults.{IsBehaviourOf}
use Rattle.aadl_tree.specs.proof.BehaviourFaultPlaces.{BehaviourStopsAt, BehaviourNestsAt}
use Rattle.aadl_grammar.specs.declared.parse_fault.ParseFault.{ParseFault}
use Rattle.aadl_grammar.specs.declared.parse_fault.ParseFault.TheVariants.{Memory, Syntax, TooDeep}

-- This is the tree of the behaviour's tokens, and there is no other.
pub record IsOnlyBehaviourOf (text : List ℕ) (tokens : List Token) (tree : AnnexTree ℕ) : Type 0 where
  pub given : IsBehaviourOf text tokens tree
  pub only : (other : AnnexTree ℕ) → IsBehaviourOf text tokens other → other ≡ tree

-- The tokens are not a behaviour, and this is the first fault. On an allocation failure nothing is stated.
abbrev pub IsFaultOfBehaviour : List ℕ → List Token → ParseFault → Type 0
IsFaultOfBehaviour text tokens (Syntax at) = BehaviourStopsAt text tokens at
IsFaultOfBehaviour text tokens (TooDeep at) = BehaviourNestsAt text tokens at
IsFaultOfBehaviour text tokens Memory = Unit {0}
