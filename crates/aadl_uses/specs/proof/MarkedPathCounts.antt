-- The number of marked declarations below another, up to a limit.
use Rattle.std.specs.Prelude.{◌≡◌, ℕ, Bool, true, false, min, List, [], ◌∷◌, length, Option, Some, None, slice_index}
use Rattle.std.specs.Prelude.{slice_index_or}
use Rattle.std.specs.Option.{option_and_then}
use Rattle.aadl_uses.specs.proof.ContainmentGraphs.{Graph, below_in}
use Rattle.aadl_uses.specs.ThreadsBelow.{path_before}
use Rattle.aadl_uses.specs.proof.OrderedLists.{AreListed}

-- the declaration at the end of a path of subcomponents, the outermost first
abbrev pub stands_at : Graph → ℕ → List ℕ → Option ℕ
stands_at g n [] = Some n
stands_at g n (s ∷ path) = option_and_then (λ k. stands_at g k path) (below_in g n s)

-- a marked declaration is at the end of the path
pub record IsMarkedAt (g : Graph) (marks : List Bool) (n : ℕ) (path : List ℕ) : Type 0 where
  pub number : ℕ
  pub stands : stands_at g n path ≡ Some number
  pub is_marked : slice_index_or marks number false ≡ true

-- the number of paths from a declaration to marked ones, up to the limit
pub record Counted (limit : ℕ) (g : Graph) (marks : List Bool) (n count : ℕ) : Type 0 where
  pub paths : List (List ℕ)
  pub listed : AreListed (IsMarkedAt g marks n) path_before paths
  pub count_is : count ≡ min limit (length paths)

-- the counts of the declarations that its subcomponents name
abbrev pub AreCounted : ℕ → Graph → List Bool → List ℕ → ℕ → Type 0
AreCounted limit g marks counts n = (s m : ℕ) → below_in g n s ≡ Some m → Counted limit g marks m (slice_index counts m)

abbrev pub own_count : ℕ → Bool → ℕ
own_count limit true = min limit 1
own_count limit false = 0

abbrev pub count_of : List ℕ → Option ℕ → ℕ
count_of counts None = 0
count_of counts (Some m) = slice_index counts m

-- the empty path leads to the declaration itself
abbrev pub own_paths : Bool → List (List ℕ)
own_paths true = [] ∷ []
own_paths false = []
