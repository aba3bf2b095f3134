-- Trees that the grammar assigns to some text.
use Rattle.std.specs.Prelude.{ℕ, List}
use Rattle.aadl_tree.specs.Declarations.{PackageTree}
use Rattle.aadl_tree.specs.TextTreesAndFaults.{IsTreeOf}

-- the grammar assigns the tree to some text
abbrev pub IsGiven : PackageTree ℕ → Type 0
IsGiven tree = (text : List ℕ) × IsTreeOf text tree
