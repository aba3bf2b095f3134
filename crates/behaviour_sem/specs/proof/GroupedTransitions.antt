-- The transitions that leave each state, by their numbers in the text's order.
use Rattle.std.specs.Prelude.{ℕ, suc, nat_eq, if◌then◌else◌, List, [], ◌∷◌, map, Option, Some, None, slice_get}
use Rattle.pals_base.specs.ExpressionAndActionTrees.{Edge}

-- the states that transitions leave
abbrev pub sources_of : List Edge → List ℕ
sources_of edges = map (λ (e : Edge). e.source) edges

-- the numbers, from one on, of the transitions that leave a state
abbrev pub numbers_of : ℕ → ℕ → List ℕ → List ℕ
numbers_of state at [] = []
numbers_of state at (source ∷ sources) =
    if nat_eq source state then at ∷ numbers_of state (suc at) sources else numbers_of state (suc at) sources

-- the transitions of these numbers
abbrev pub with_first : Option Edge → List Edge → List Edge
with_first None edges = edges
with_first (Some e) edges = e ∷ edges

abbrev pub numbered : List Edge → List ℕ → List Edge
numbered edges [] = []
numbered edges (n ∷ ns) = with_first (slice_get edges n) (numbered edges ns)
