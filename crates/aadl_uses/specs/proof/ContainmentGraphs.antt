-- The containment relation as a graph: for each declaration, the numbers of the declarations that its subcomponents
-- name, in order.
use Rattle.std.specs.Prelude.{◌≡◌, ℕ, ◌<◌, List, [], ◌∷◌, ◌++◌, length, Option, Some, slice_get, slice_index_or}
use Rattle.std.specs.Prelude.{Contains, nat_eq}
use Rattle.std.specs.List.{IsDistinct}
use Rattle.std.specs.Option.{option_and_then}

abbrev pub Graph : Type 0
Graph = List (List (Option ℕ))

abbrev pub targets_in : Graph → ℕ → List (Option ℕ)
targets_in g n = slice_index_or g n []

-- the target of a subcomponent
abbrev pub below_in : Graph → ℕ → ℕ → Option ℕ
below_in g n s = option_and_then (λ target. target) (slice_get (targets_in g n) s)

-- the declaration at the end of a path of subcomponents, by their numbers, the innermost first
abbrev pub reached_by : Graph → ℕ → List ℕ → Option ℕ
reached_by g from [] = Some from
reached_by g from (s ∷ path) = option_and_then (λ n. below_in g n s) (reached_by g from path)

abbrev pub IsReached : Graph → ℕ → ℕ → Type 0
IsReached g from n = (path : List ℕ) × (reached_by g from path ≡ Some n)

-- every target is the number of a declaration
abbrev pub IsWithin : Graph → Type 0
IsWithin g = (n s m : ℕ) → below_in g n s ≡ Some m → m < length g

-- a subcomponent leads back to the declaration that contains it
abbrev pub LeadsBack : Graph → ℕ → ℕ → Type 0
LeadsBack g n s = (m : ℕ) × (below_in g n s ≡ Some m) × IsReached g m n

-- a list that grows by the declared targets and nothing else
pub record AreAdded (targets : List (Option ℕ)) (old new : List ℕ) : Type 0 where
  pub more : List ℕ
  pub grown : new ≡ old ++ more
  pub named : (n : ℕ) → Contains more n → Contains targets (Some n)
  pub all : (n : ℕ) → Contains targets (Some n) → Contains new n
  pub distinct : IsDistinct nat_eq old → IsDistinct nat_eq new
