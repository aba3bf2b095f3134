-- The threads of an instance model with their rates.
use Rattle.std.specs.Prelude.{◌≡◌, ◌<◌, ℕ, List, Option, Some, slice_get}
use Rattle.aadl_tree.specs.Declarations.{PackageTree}
use Rattle.aadl_tree.specs.proof.PackageViews.{placed}
use Rattle.model_violations.specs.declared.chain_findings.RatedThreads.{RatedThreads}

-- their package
abbrev pub tree_of : RatedThreads → PackageTree ℕ
tree_of rated = placed rated.properties.now.uses.now.names.tree.now

-- each rate that exists is at least 1
abbrev pub ArePositive : List (Option ℕ) → Type 0
ArePositive rates = (n k : ℕ) → slice_get rates n ≡ Some (Some k) → 0 < k
