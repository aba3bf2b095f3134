-- The search for the order in which the blocks of states are compiled.
use Rattle.std.specs.Prelude.{ℕ, zero, suc, nat_eq, Bool, true, false, not, ◌&&◌, if◌then◌else◌, List, [], ◌∷◌, ◌++◌}
use Rattle.std.specs.Prelude.{length, map, find, fold, replicate, slice_index_or, slice_set, Option, Some, None}
use Rattle.std.specs.List.{list_any}
use Rattle.pals_base.specs.declared.behaviour.BehaviourParts.{BehaviourParts}
use Rattle.pals_base.specs.ExpressionAndActionTrees.{Edge}
use Rattle.pals_base.specs.UpwardNumbers.{upwards}
use Rattle.step_compiler.specs.LaidOutCode.{states_of, complete_states}

-- whether a state's block is placed
abbrev pub is_placed : List ℕ → ℕ → Bool
is_placed order s = list_any (λ t. nat_eq t s) order

-- whether a transition leads to a state from one that is not placed
abbrev pub leads_from_outside : List ℕ → ℕ → Edge → Bool
leads_from_outside order s e = not (is_placed order e.source) && nat_eq e.target s

abbrev pub is_awaited : BehaviourParts → List ℕ → ℕ → Bool
is_awaited b order s = list_any (leads_from_outside order s) b.transitions

-- whether a state's block may come next: it is not placed, and all blocks that jump to it are
abbrev pub may_follow : BehaviourParts → List ℕ → ℕ → Bool
may_follow b order s = not (is_placed order s) && not (is_awaited b order s)

-- the lowest state that may
abbrev pub next_state : BehaviourParts → List ℕ → Option ℕ
next_state b order = find (may_follow b order) (states_of b)

-- ---- how it is looked for
-- for each of the first n states, whether its block is not placed
abbrev pub states_outside : List ℕ → ℕ → List Bool
states_outside order n = map (λ s. not (is_placed order s)) (upwards 0 n)

-- marks with one at the state to which a transition leads, if it comes from a marked one
abbrev pub with_target : List Bool → List Bool → Edge → List Bool
with_target outside marks e = if slice_index_or outside e.source false then slice_set marks e.target true else marks

abbrev pub awaited_marks : List Bool → List Edge → List Bool
awaited_marks outside edges = fold (with_target outside) (replicate (length outside) false) edges

-- ---- the whole
abbrev pub with_next : List ℕ → Option ℕ → List ℕ
with_next order None = order
with_next order (Some s) = order ++ s ∷ []

-- an order followed by the next state, n times
abbrev pub ordered : ℕ → BehaviourParts → List ℕ → List ℕ
ordered zero b order = order
ordered (suc n) b order = ordered n b (with_next order (next_state b order))

-- the complete states first, and then the others, each after every state that jumps to it
abbrev pub block_order : BehaviourParts → List ℕ
block_order b = ordered (length b.states) b (complete_states b)
