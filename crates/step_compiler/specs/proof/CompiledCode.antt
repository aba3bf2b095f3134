-- The code that a behaviour is compiled to, block by block, and where each block starts.
use Rattle.std.specs.Prelude.{ℕ, List, length, map}
use Rattle.pals_base.specs.declared.behaviour.BehaviourParts.{BehaviourParts}
use Rattle.pals_base.specs.ExpressionAndActionTrees.{Edge}
use Rattle.pals_base.specs.SingleStep.{is_complete}
use Rattle.step_code.specs.declared.instr.Instr.{Instr}
use Rattle.step_code.specs.declared.instr.CodeParts.{CodeParts}
use Rattle.step_compiler.specs.LoopDepths.{depth_edges}
use Rattle.step_compiler.specs.LaidOutCode.{states_of}
use Rattle.step_compiler.specs.proof.BlockOrder.{block_order}
use Rattle.step_compiler.specs.BlockInstructions.{edge_code, block_code, start_of, blocks_code, entry_of}
use Rattle.step_compiler.specs.proof.BlockLengthsAndStarts.{in_list, leaving_among}

-- a transition in the block of its state
abbrev pub transition_code : BehaviourParts → (ℕ → ℕ) → Edge → ℕ → List Instr
transition_code b starts e p = edge_code b starts (is_complete b e.source) e p

-- the code of those, in the block of the state
abbrev pub leaving_code : BehaviourParts → (ℕ → ℕ) → ℕ → List Edge → ℕ → List Instr
leaving_code b starts s es p = block_code b starts (is_complete b s) (leaving_among s es) p

abbrev pub block_starts : BehaviourParts → List ℕ
block_starts b = map (start_of b (block_order b)) (states_of b)

unfoldable pub compiled : BehaviourParts → CodeParts
compiled b = record {
  instrs = blocks_code b (in_list (block_starts b)) (block_order b) 0;
  entries = map (entry_of b (in_list (block_starts b))) (states_of b);
  vars = length b.vars;
  loops = depth_edges b.transitions;
  ins = length b.ins;
  outs = length b.outs;
}
