-- Which code a behaviour has, with no search for it: how the blocks of states are put together. The instructions
-- inside them are in ExpressionAndActionInstructions and BlockInstructions.
use Rattle.std.specs.Prelude.{◌≡◌, ℕ, ◌<◌, ◌≤◌, List, length, map, take, Some, slice_get, filter}
use Rattle.std.specs.List.{Contains}
use Rattle.pals_base.specs.declared.behaviour.BehaviourParts.{BehaviourParts}
use Rattle.pals_base.specs.ExpressionAndActionTrees.{Edge}
use Rattle.step_code.specs.declared.instr.CodeParts.{CodeParts}
use Rattle.step_compiler.specs.LoopDepths.{depth_edges}
use Rattle.step_compiler.specs.BlockInstructions.{blocks_code, start_of, entry_of}
use Rattle.pals_base.specs.SingleStep.{is_complete}
use Rattle.pals_base.specs.UpwardNumbers.{upwards}

-- ---- the order of blocks
-- the block of a state may be next: it is not placed, and every block that jumps to it is
pub record MayFollow (b : BehaviourParts) (placed : List ℕ) (state : ℕ) : Type 0 where
  pub is_state : state < length b.states
  pub new : ¬ Contains placed state
  pub awaits_none : (e : Edge) → Contains b.transitions e → e.target ≡ state → Contains placed e.source

-- the lowest one that may
pub record IsNext (b : BehaviourParts) (placed : List ℕ) (state : ℕ) : Type 0 where
  pub may : MayFollow b placed state
  pub lowest : (other : ℕ) → other < state → ¬ MayFollow b placed other

abbrev pub states_of : BehaviourParts → List ℕ
states_of b = upwards 0 (length b.states)

abbrev pub complete_states : BehaviourParts → List ℕ
complete_states b = filter (is_complete b) (states_of b)

-- the complete states come first, in their order; then each state is the next one after the states before it; and each
-- state is somewhere
pub record IsBlockOrder (b : BehaviourParts) (order : List ℕ) : Type 0 where
  pub complete : take (length (complete_states b)) order ≡ complete_states b
  pub others : (k state : ℕ) → length (complete_states b) ≤ k → slice_get order k ≡ Some state →
      IsNext b (take k order) state
  pub all : (state : ℕ) → state < length b.states → Contains order state

-- ---- the code
-- the blocks follow one another in that order, from 0 on; a complete state is entered at its dispatch transition
pub record IsLaidOut (b : BehaviourParts) (code : CodeParts) : Type 0 where
  pub order : List ℕ
  pub is_order : IsBlockOrder b order
  pub instrs : code.instrs ≡ blocks_code b (start_of b order) order 0
  pub entries : code.entries ≡ map (entry_of b (start_of b order)) (states_of b)
  pub vars : code.vars ≡ length b.vars
  pub loops : code.loops ≡ depth_edges b.transitions
  pub ins : code.ins ≡ length b.ins
  pub outs : code.outs ≡ length b.outs

-- the codes of behaviours, in their order
pub record AreLaidOut (behaviours : List BehaviourParts) (codes : List CodeParts) : Type 0 where
  pub count : length codes ≡ length behaviours
  pub each : (k : ℕ) (b : BehaviourParts) (code : CodeParts) →
      slice_get behaviours k ≡ Some b → slice_get codes k ≡ Some code → IsLaidOut b code
