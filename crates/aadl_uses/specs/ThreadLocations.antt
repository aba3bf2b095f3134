-- The threads below a root, and their paths.
use Rattle.std.specs.Prelude.{ℕ, List, [], ◌∷◌, ◌++◌, codes, reverse, Option, Some, None}
use Rattle.std.specs.Option.{option_and_then}
use Rattle.aadl_tree.specs.Declarations.{Subcomponent, Implementation, PackageTree}
use Rattle.aadl_uses.specs.ContainmentAndUse.{sub_at, number_at_path}
use Rattle.aadl_uses.specs.ThreadsBelow.{IsThreadOf}
use Rattle.aadl_uses.specs.declared.thread_locations.SubAt.{SubAt}
use Rattle.aadl_uses.specs.declared.thread_locations.ThreadAt.{ThreadAt}

-- the implementation and the path of some thread satisfy P
abbrev pub ThreadWith : PackageTree ℕ → ℕ → (Implementation ℕ → List ℕ → Type 0) → Type 0
ThreadWith tree root P = (path : List ℕ) × (x : Implementation ℕ) × IsThreadOf tree root path x × P x path

-- ---- names along a path, the innermost first
abbrev pub name_at : Option (Subcomponent ℕ) → List (List ℕ)
name_at None = []
name_at (Some sub) = sub.name.spelling ∷ []

abbrev pub names_along : PackageTree ℕ → ℕ → List ℕ → List (List ℕ)
names_along tree root [] = []
names_along tree root (s ∷ path) =
    name_at (option_and_then (λ n. sub_at tree n s) (number_at_path tree root path)) ++ names_along tree root path

abbrev pub dotted_names : List (List ℕ) → List ℕ
dotted_names [] = []
dotted_names (x ∷ []) = x
dotted_names (x ∷ y ∷ xs) = x ++ codes "." ++ dotted_names (y ∷ xs)

abbrev pub spelled_path : PackageTree ℕ → ℕ → List ℕ → List ℕ
spelled_path tree root path = dotted_names (reverse (names_along tree root path))

-- ---- subcomponents along a path, the innermost first
abbrev pub sub_in : Option ℕ → ℕ → List SubAt
sub_in None s = []
sub_in (Some n) s = record { declaration = n; sub = s } ∷ []

abbrev pub subs_along : PackageTree ℕ → ℕ → List ℕ → List SubAt
subs_along tree root [] = []
subs_along tree root (s ∷ path) = sub_in (number_at_path tree root path) s ++ subs_along tree root path

abbrev pub thread_at : PackageTree ℕ → ℕ → List ℕ → ThreadAt
thread_at tree root path = record { path = spelled_path tree root path; subs = reverse (subs_along tree root path) }
