-- The lengths of blocks, and where each starts, in the order in which they are compiled.
use Rattle.std.specs.Prelude.{ℕ, ◌+◌, nat_eq, if◌then◌else◌, List, [], ◌∷◌, filter, slice_index_or}
use Rattle.pals_base.specs.declared.behaviour.BehaviourParts.{BehaviourParts}
use Rattle.pals_base.specs.ExpressionAndActionTrees.{Edge}
use Rattle.step_code.specs.CappedWeights.{capped}
use Rattle.step_compiler.specs.BlockInstructions.{block_length}

abbrev pub order_length : BehaviourParts → List ℕ → ℕ
order_length b [] = 0
order_length b (s ∷ order) = block_length b s + order_length b order

-- the lengths of some transitions that leave a state
abbrev pub leaving_among : ℕ → List Edge → List Edge
leaving_among s es = filter (λ e. nat_eq e.source s) es

abbrev pub capped_length : BehaviourParts → ℕ → ℕ
capped_length b s = capped (block_length b s)

-- the place at which the block of a state begins, with the blocks' lengths listed
abbrev pub start_in : List ℕ → List ℕ → ℕ → ℕ
start_in lengths [] s = 0
start_in lengths (t ∷ order) s = if nat_eq t s then 0 else slice_index_or lengths t 0 + start_in lengths order s

-- places that are listed by state
abbrev pub in_list : List ℕ → ℕ → ℕ
in_list starts s = slice_index_or starts s 0
