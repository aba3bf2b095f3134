-- The containment relation between implementations, and the implementations in use.
use Rattle.std.specs.Prelude.{◌≡◌, ℕ, List, [], ◌∷◌, Option, Some, slice_get}
use Rattle.std.specs.Option.{option_and_then}
use Rattle.aadl_tree.specs.Declarations.{Subcomponent, Implementation, PackageTree}
use Rattle.aadl_names.specs.NameResolution.{implementation_at, subcomponents_of, referred}

abbrev pub sub_at : PackageTree ℕ → ℕ → ℕ → Option (Subcomponent ℕ)
sub_at tree n s = slice_get (subcomponents_of (implementation_at tree n)) s

-- the number of the implementation of a subcomponent
abbrev pub below : PackageTree ℕ → ℕ → ℕ → Option ℕ
below tree n s = option_and_then (λ sub. referred tree sub.classifier) (sub_at tree n s)

-- The implementation at the end of a path of subcomponents, by their numbers, the innermost first.
abbrev pub number_at_path : PackageTree ℕ → ℕ → List ℕ → Option ℕ
number_at_path tree root [] = Some root
number_at_path tree root (s ∷ path) = option_and_then (λ n. below tree n s) (number_at_path tree root path)

abbrev pub component_at : PackageTree ℕ → ℕ → List ℕ → Option (Implementation ℕ)
component_at tree root path = option_and_then (implementation_at tree) (number_at_path tree root path)

abbrev pub IsInUse : PackageTree ℕ → ℕ → ℕ → Type 0
IsInUse tree root n = (path : List ℕ) × (number_at_path tree root path ≡ Some n)
