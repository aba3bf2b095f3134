-- The containment of a package as a graph: the numbers of the declarations that subcomponents name.
use Rattle.std.specs.Prelude.{ℕ, List, map, Option, Some}
use Rattle.aadl_tree.specs.Declarations.{Implementation, Declaration, PackageTree}
use Rattle.aadl_names.specs.NameResolution.{implementation_in, subcomponents_of, referred}
use Rattle.aadl_uses.specs.proof.ContainmentGraphs.{Graph}

-- ---- the numbers that subcomponents name
abbrev pub targets_of : PackageTree ℕ → Option (Implementation ℕ) → List (Option ℕ)
targets_of tree x = map (λ sub. referred tree sub.classifier) (subcomponents_of x)

abbrev pub targets_in : PackageTree ℕ → Declaration ℕ → List (Option ℕ)
targets_in tree d = targets_of tree (implementation_in (Some d))

abbrev pub containment : PackageTree ℕ → Graph
containment tree = map (targets_in tree) tree.declarations
