-- The instructions that transitions, states and the whole behaviour are compiled to.
use Rattle.std.specs.Prelude.{ℕ, ◌+◌, ◌-◌, nat_eq, Bool, if◌then◌else◌, List, [], ◌∷◌, ◌++◌, length, Option, Some, None}
use Rattle.pals_base.specs.declared.behaviour.BehaviourParts.{BehaviourParts}
use Rattle.pals_base.specs.ExpressionAndActionTrees.{Edge, Trigger, Dispatch, Always, When}
use Rattle.pals_base.specs.SingleStep.{is_complete, is_dispatch, leaving}
use Rattle.step_code.specs.declared.instr.Instr.{Instr}
use Rattle.step_code.specs.CodeLengths.{length_trigger, length_edge, length_edges}
use Rattle.step_compiler.specs.ExpressionAndActionInstructions.{code_of, code_acts}
use Rattle.step_code.specs.declared.instr.Instr.TheVariants as code

-- a guard, which leads to a place where it is not true
abbrev pub trigger_code : Trigger → ℕ → ℕ → List Instr
trigger_code Dispatch to p = []
trigger_code Always to p = []
trigger_code (When e) to p = code_of e p ++ code.JumpZero to ∷ []

-- the end of a transition: that of the step, or a jump to the block of the state that it goes to
abbrev pub last_instr : BehaviourParts → (ℕ → ℕ) → ℕ → Instr
last_instr b starts target = if is_complete b target then code.End target else code.Jump (starts target)

-- the target of a guard that is not true: after the transition, or, if it is never taken, its last instruction
abbrev pub false_guard_target : Bool → Edge → ℕ → ℕ
false_guard_target complete e p = if complete then p + length_edge e - 1 else p + length_edge e

abbrev pub edge_code : BehaviourParts → (ℕ → ℕ) → Bool → Edge → ℕ → List Instr
edge_code b starts complete e p =
    trigger_code e.trigger (false_guard_target complete e p) p
    ++ (code_acts e.actions (length b.vars) (p + length_trigger e.trigger) ++ last_instr b starts e.target ∷ [])

-- the block of a state: the transitions that leave it, in the text's order
abbrev pub block_code : BehaviourParts → (ℕ → ℕ) → Bool → List Edge → ℕ → List Instr
block_code b starts complete [] p = []
block_code b starts complete (e ∷ es) p =
    edge_code b starts complete e p ++ block_code b starts complete es (p + length_edge e)

-- ---- blocks in an order
abbrev pub block_length : BehaviourParts → ℕ → ℕ
block_length b s = length_edges (leaving b s)

-- the place at which the block of a state begins
abbrev pub start_of : BehaviourParts → List ℕ → ℕ → ℕ
start_of b [] s = 0
start_of b (t ∷ order) s = if nat_eq t s then 0 else block_length b t + start_of b order s

abbrev pub blocks_code : BehaviourParts → (ℕ → ℕ) → List ℕ → ℕ → List Instr
blocks_code b starts [] p = []
blocks_code b starts (s ∷ order) p =
    block_code b starts (is_complete b s) (leaving b s) p ++ blocks_code b starts order (p + block_length b s)

-- ---- entries
-- the length of the transitions before the one at the dispatch
abbrev pub dispatch_offset : List Edge → ℕ
dispatch_offset [] = 0
dispatch_offset (e ∷ es) = if is_dispatch e.trigger then 0 else length_edge e + dispatch_offset es

abbrev pub entry_of : BehaviourParts → (ℕ → ℕ) → ℕ → Option ℕ
entry_of b starts s = if is_complete b s then Some (starts s + dispatch_offset (leaving b s)) else None
