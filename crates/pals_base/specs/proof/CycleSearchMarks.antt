-- The search for cycles outside the complete states: it marks the states from which a step ends, one iteration after
-- another.
use Rattle.std.specs.Prelude.{ℕ, zero, suc, Bool, true, ◌||◌, List, slice_get}
use Rattle.std.specs.List.{list_all}
use Rattle.std.specs.Option.{unwrap_or}
use Rattle.pals_base.specs.declared.behaviour.BehaviourParts.{BehaviourParts}
use Rattle.pals_base.specs.SingleStep.{is_complete, leaving}

-- whether every path from a state reaches a complete one by at most n transitions
abbrev pub settles : ℕ → BehaviourParts → ℕ → Bool
settles zero b s = is_complete b s
settles (suc n) b s = is_complete b s || list_all (λ e. settles n b e.target) (leaving b s)

-- the mark of a state; an undeclared state is marked
abbrev pub marked : List Bool → ℕ → Bool
marked marks s = unwrap_or (slice_get marks s) true

-- whether a state is complete, or each outgoing transition leads to a marked one
abbrev pub settles_next : BehaviourParts → List Bool → ℕ → Bool
settles_next b marks s = is_complete b s || list_all (λ e. marked marks e.target) (leaving b s)
