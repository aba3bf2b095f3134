-- The lists of terminals that are a package or a behaviour, and how deep they nest.
use Rattle.std.specs.Prelude.{ℕ, ◌≡◌, ◌+◌, ◌-◌, ◌≤◌, Bool, true, false, List, [], ◌∷◌, ◌++◌}
use Rattle.aadl_tree.specs.declared.nesting_limit.TheConstants.{GREATEST_NESTING}
use Rattle.aadl_tree.specs.Terminals.{PlainTerminal, mark}
use Rattle.aadl_tree.specs.SpellingParts.{Spells}
use Rattle.aadl_tree.specs.Annexes.{AnnexTree, annex_tree_parts}
use Rattle.aadl_tree.specs.Declarations.{PackageTree, package_parts}
use Rattle.aadl_tree.specs.declared.mark.Mark.TheVariants as k

-- the terminals spell some package with any places
pub record IsPackage (ks : List PlainTerminal) : Type 0 where
  pub tree : PackageTree ℕ
  pub spelled : Spells (package_parts tree) ks []

-- the terminals spell some behaviour with any places
pub record IsBehaviour (ks : List PlainTerminal) : Type 0 where
  pub tree : AnnexTree ℕ
  pub spelled : Spells (annex_tree_parts tree) ks []

-- The number of openers open after a terminal, if n are open before it. The flag indicates that `end` directly
-- precedes it, whose `if` closes.
abbrev pub opened : ℕ → Bool → PlainTerminal → ℕ
opened n true (mark k.If) = n - 1
opened n false (mark k.If) = n + 1
opened n ended (mark k.ParenOpen) = n + 1
opened n ended (mark k.BracketOpen) = n + 1
opened n ended (mark k.BraceOpen) = n + 1
opened n ended (mark k.AnnexOpen) = n + 1
opened n ended (mark k.GuardOpen) = n + 1
opened n ended (mark k.ParenClose) = n - 1
opened n ended (mark k.BracketClose) = n - 1
opened n ended (mark k.BraceClose) = n - 1
opened n ended (mark k.AnnexClose) = n - 1
opened n ended (mark k.GuardClose) = n - 1
opened n ended _ = n

abbrev pub is_end : PlainTerminal → Bool
is_end (mark k.End) = true
is_end _ = false

abbrev pub nesting_from : ℕ → Bool → List PlainTerminal → ℕ
nesting_from n ended [] = n
nesting_from n ended (kind ∷ ks) = nesting_from (opened n ended kind) (is_end kind) ks

-- the number of openers open after the terminals, if `outer` are open before them
abbrev pub nesting : ℕ → List PlainTerminal → ℕ
nesting outer ks = nesting_from outer false ks

-- at no point of the terminals, more openers are open than the limit admits
abbrev pub IsShallow : ℕ → List PlainTerminal → Type 0
IsShallow outer ks = (front back : List PlainTerminal) → ks ≡ front ++ back → nesting outer front ≤ GREATEST_NESTING
