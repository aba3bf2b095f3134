-- The tree that the grammar assigns to a text or a behaviour, and the positions at which it assigns none.
use Rattle.std.specs.Prelude.{ℕ, true, List, [], length}
use Rattle.aadl_lex.specs.declared.token.Token.{Token}
use Rattle.aadl_lex.specs.TokensAndFirstFaults.{AreTokensOf}
use Rattle.aadl_tree.specs.Terminals.{spots_from, placed_terminals, kinds_of}
use Rattle.aadl_tree.specs.SpellingParts.{Written}
use Rattle.aadl_tree.specs.Annexes.{AnnexTree, annex_tree_parts}
use Rattle.aadl_tree.specs.Declarations.{PackageTree, package_parts}
use Rattle.aadl_tree.specs.PackagesBehavioursAndNesting.{IsPackage, IsShallow}
use Rattle.aadl_tree.specs.TerminalFaults.{FailsAt, DeepAt}

-- The tree of a text: its tokens spell the tree, at their places, and are within the nesting limit.
pub record IsTreeOf (text : List ℕ) (tree : PackageTree ℕ) : Type 0 where
  pub tokens : List Token
  pub lexed : AreTokensOf text tokens
  pub written : Written (package_parts tree) (placed_terminals text tokens) []
  pub shallow : IsShallow 0 (kinds_of (placed_terminals text tokens))

-- No text of the grammar continues from this place on.
pub record StopsAt (text : List ℕ) (at : ℕ) : Type 0 where
  pub tokens : List Token
  pub lexed : AreTokensOf text tokens
  pub fails : FailsAt IsPackage 0 (length text) (placed_terminals text tokens) at

-- The opener at this place of the text exceeds the nesting limit.
pub record NestsAt (text : List ℕ) (at : ℕ) : Type 0 where
  pub tokens : List Token
  pub lexed : AreTokensOf text tokens
  pub deep : DeepAt IsPackage 0 (placed_terminals text tokens) at

-- The tokens of a behaviour by itself are inside an opened annex, so one opener is open before them.
abbrev pub outer_nesting : ℕ
outer_nesting = 1

-- the tree of a behaviour's tokens
pub record IsBehaviourOf (text : List ℕ) (tokens : List Token) (tree : AnnexTree ℕ) : Type 0 where
  pub written : Written (annex_tree_parts tree) (spots_from true text tokens) []
  pub shallow : IsShallow outer_nesting (kinds_of (spots_from true text tokens))
