-- The result for a text: tokens and a tree, or the first fault.
use Rattle.std.specs.Prelude.{ℕ, ◌≢◌, List}
use Rattle.aadl_lex.specs.declared.token.Token.{Token}
use Rattle.aadl_lex.specs.declared.fault.LexFault.{LexFault}
use Rattle.aadl_lex.specs.declared.fault.LexFault.TheVariants.{Memory}
use Rattle.aadl_lex.specs.TokensAndFirstFaults.{AreTokensOf, IsFaultOf}
use Rattle.aadl_tree.specs.Declarations.{PackageTree}
use Rattle.aadl_tree.specs.TextTreesAndFaults.{IsTreeOf, StopsAt, NestsAt}

-- it has tokens
abbrev pub HasTokens : List ℕ → Type 0
HasTokens text = (tokens : List Token) × AreTokensOf text tokens

-- it has a first lexical fault, which is not `Memory`
abbrev pub HasLexFault : List ℕ → Type 0
HasLexFault text = (fault : LexFault) × (fault ≢ Memory) × IsFaultOf text fault

-- it has a tree of the grammar
abbrev pub HasTree : List ℕ → Type 0
HasTree text = (tree : PackageTree ℕ) × IsTreeOf text tree

-- it has tokens, and at one of their places no text of the grammar continues
abbrev pub Stops : List ℕ → Type 0
Stops text = (at : ℕ) × StopsAt text at

-- it has tokens, and the opener at one of their places exceeds the nesting limit
abbrev pub NestsTooDeep : List ℕ → Type 0
NestsTooDeep text = (at : ℕ) × NestsAt text at
