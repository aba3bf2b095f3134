-- The weight of a path, and the maximum weight of the paths to marked declarations, up to a limit.
use Rattle.std.specs.Prelude.{◌≡◌, ℕ, ◌≤◌, ◌+◌, max, min, Bool, true, false, List, [], ◌∷◌, Option, Some, None}
use Rattle.std.specs.Prelude.{slice_index_or}
use Rattle.std.specs.Option.{option_map_or}
use Rattle.aadl_uses.specs.proof.ContainmentGraphs.{Graph, below_in}
use Rattle.aadl_uses.specs.proof.MarkedPathCounts.{IsMarkedAt}

abbrev pub weight_of : List (List ℕ) → ℕ → ℕ → ℕ
weight_of weights n s = slice_index_or (slice_index_or weights n []) s 0

-- the sum of the weights along a path, the outermost subcomponent first
abbrev pub path_weight : Graph → List (List ℕ) → ℕ → List ℕ → ℕ
path_weight g weights n [] = 0
path_weight g weights n (s ∷ path) =
    weight_of weights n s + option_map_or (λ k. path_weight g weights k path) (below_in g n s) 0

-- the maximum weight of the paths that satisfy P, up to a limit; `None` if no path does
pub record IsGreatest (P : List ℕ → Type 0) (weight : List ℕ → ℕ) (limit found : ℕ) : Type 0 where
  pub path : List ℕ
  pub has : P path
  pub reaches : found ≡ min limit (weight path)
  pub most : (q : List ℕ) → P q → min limit (weight q) ≤ found

abbrev pub IsGreatestOf : (List ℕ → Type 0) → (List ℕ → ℕ) → ℕ → Option ℕ → Type 0
IsGreatestOf P weight limit None = (q : List ℕ) → P q → ⊥
IsGreatestOf P weight limit (Some found) = IsGreatest P weight limit found

abbrev pub IsHeaviest : ℕ → Graph → List Bool → List (List ℕ) → ℕ → Option ℕ → Type 0
IsHeaviest limit g marks weights n found = IsGreatestOf (IsMarkedAt g marks n) (path_weight g weights n) limit found

abbrev pub AreWeighed : ℕ → Graph → List Bool → List (List ℕ) → List (Option ℕ) → ℕ → Type 0
AreWeighed limit g marks weights found n =
    (s m : ℕ) → below_in g n s ≡ Some m → IsHeaviest limit g marks weights m (slice_index_or found m None)

-- ---- one declaration
abbrev pub own_weight : Bool → Option ℕ
own_weight true = Some 0
own_weight false = None

abbrev pub found_from : List (Option ℕ) → Option ℕ → Option ℕ
found_from found None = None
found_from found (Some m) = slice_index_or found m None

abbrev pub heavier : Option ℕ → Option ℕ → Option ℕ
heavier None b = b
heavier (Some x) None = Some x
heavier (Some x) (Some y) = Some (max x y)
