-- At which places of the compiled code no loop is under way and the stack is empty: where transitions and blocks
-- begin.
use Rattle.std.proofs.Common.{◌≡◌, inl, ℕ, ◌+◌, ◌-◌, Bool, true, false, if◌then◌else◌, List, [], ◌∷◌, ◌++◌, length}
use Rattle.std.proofs.Common.{refl, subst, arith, nat_eq}
use Rattle.pals_base.specs.declared.behaviour.BehaviourParts.{BehaviourParts}
use Rattle.pals_base.specs.ExpressionAndActionTrees.{Edge, Trigger, Dispatch, Always, When}
use Rattle.pals_base.specs.SingleStep.{is_complete, leaving}
use Rattle.step_code.specs.declared.instr.Instr.{Instr}
use Rattle.step_code.specs.declared.instr.Instr.TheVariants as code
use Rattle.step_code.specs.CodeLengths.{length_of, length_acts, length_trigger, length_edge, length_edges}
use Rattle.step_compiler.specs.ExpressionAndActionInstructions.{code_of, code_acts}
use Rattle.step_compiler.specs.BlockInstructions.{trigger_code, last_instr, false_guard_target, edge_code, block_code}
use Rattle.step_compiler.specs.BlockInstructions.{block_length}
use Rattle.step_compiler.specs.BlockInstructions.{start_of, blocks_code}
use Rattle.step_compiler.proofs.PlacedCodeLengths.{HasAt, has_front, has_back, code-length, acts-length, trigger-length}
use Rattle.step_compiler.proofs.PlacedCodeLengths.{edge-length, block-length}
use Rattle.step_compiler.proofs.LoopsClosedWithinParts.{Outer, Closed, closed_both, one_closed, none_closed}
use Rattle.step_compiler.proofs.LoopsClosedWithinParts.{starts_none}
use Rattle.step_compiler.proofs.LoopsClosedWithinParts.{expr_closed, acts_closed}
use Rattle.step_compiler.proofs.StackHeights.{height, edge_height, block_height}
use Rattle.step_compiler.proofs.VerifiedActions.{Round}

-- ---- loops of transitions and blocks
last_plain : (b : BehaviourParts) (starts : ℕ → ℕ) (target : ℕ) → starts_none (last_instr b starts target) ≡ true
last_plain b starts target = by (is_complete b target)
  where
    by : (t : Bool) → starts_none (if t then code.End target else code.Jump (starts target)) ≡ true
    by true = refl
    by false = refl

pub trigger_closed : (whole : List Instr) (t : Trigger) (to p : ℕ) → HasAt whole p (trigger_code t to p)
    → Closed whole p (p + length_trigger t)
trigger_closed whole Dispatch to p has = none_closed whole p (p + 0) (omega arith)
trigger_closed whole Always to p has = none_closed whole p (p + 0) (omega arith)
trigger_closed whole (When e) to p has =
    let r = p + length_of e in
    let here = (has_back whole p (length_of e) r (code_of e p) (code.JumpZero to ∷ []) (code-length e p) refl has).0 in
    closed_both whole p r (p + (length_of e + 1)) (omega arith)
    (expr_closed whole e p r (has_front whole p (code_of e p) (code.JumpZero to ∷ []) has) refl)
    (one_closed whole r (p + (length_of e + 1)) (code.JumpZero to) here refl (omega arith))

pub edge_closed : (whole : List Instr) (b : BehaviourParts) (starts : ℕ → ℕ) (complete : Bool) (e : Edge) (p : ℕ)
    → HasAt whole p (edge_code b starts complete e p) → Closed whole p (p + length_edge e)
edge_closed whole b starts complete e p has =
    let t = length_trigger e.trigger in
    let m = length_acts e.actions in
    let guard = trigger_code e.trigger (false_guard_target complete e p) p in
    let body = code_acts e.actions (length b.vars) (p + t) in
    let i = last_instr b starts e.target in
    let back =
    has_back whole p t (p + t) guard (body ++ i ∷ []) (trigger-length e.trigger (false_guard_target complete e p) p)
    refl has in
    let here =
    (has_back whole (p + t) m (p + t + m) body (i ∷ []) (acts-length e.actions (length b.vars) (p + t))
    refl back).0 in
    closed_both whole p (p + t) (p + (t + m + 1)) (omega arith)
    (trigger_closed whole e.trigger (false_guard_target complete e p) p (has_front whole p guard (body ++ i ∷ []) has))
    (closed_both whole (p + t) (p + t + m) (p + (t + m + 1)) (omega arith)
    (acts_closed whole e.actions (length b.vars) (p + t) (p + t + m)
    (has_front whole (p + t) body (i ∷ []) back) refl)
    (one_closed whole (p + t + m) (p + (t + m + 1)) i here (last_plain b starts e.target) (omega arith)))

block_closed : (whole : List Instr) (b : BehaviourParts) (starts : ℕ → ℕ) (complete : Bool) (es : List Edge) (p : ℕ)
    → HasAt whole p (block_code b starts complete es p) → Closed whole p (p + length_edges es)
block_closed whole b starts complete [] p has = none_closed whole p (p + 0) (omega arith)
block_closed whole b starts complete (e ∷ es) p has =
    let q = p + length_edge e in
    let part = edge_code b starts complete e p in
    let front = has_front whole p part (block_code b starts complete es q) has in
    let back =
    has_back whole p (length_edge e) q part (block_code b starts complete es q)
    (edge-length b starts complete e p) refl has in
    let place : q + length_edges es ≡ p + (length_edge e + length_edges es) = omega arith in
    subst (Closed whole p) place
    (closed_both whole p q (q + length_edges es) (omega arith) (edge_closed whole b starts complete e p front)
    (block_closed whole b starts complete es q back))

-- at a place no loop is under way, and the stack is empty
pub record IsLoopFree (whole : List Instr) (p : ℕ) : Type 0 where
  pub closed : Closed whole 0 p
  pub level : height whole p ≡ 0

calm_on : (whole : List Instr) (b : BehaviourParts) (starts : ℕ → ℕ) (complete : Bool) (es : List Edge) (p : ℕ)
    → HasAt whole p (block_code b starts complete es p) → IsLoopFree whole p → IsLoopFree whole (p + length_edges es)
calm_on whole b starts complete es p has calm = record {
  closed =
      closed_both whole 0 p (p + length_edges es) (omega arith) calm.closed
      (block_closed whole b starts complete es p has);
  level = block_height whole b starts complete es p has calm.level;
}

pub calm_edge : (whole : List Instr) (b : BehaviourParts) (starts : ℕ → ℕ) (complete : Bool) (e : Edge) (p : ℕ)
    → HasAt whole p (edge_code b starts complete e p) → IsLoopFree whole p → IsLoopFree whole (p + length_edge e)
calm_edge whole b starts complete e p has calm = record {
  closed =
      closed_both whole 0 p (p + length_edge e) (omega arith) calm.closed (edge_closed whole b starts complete e p has);
  level = edge_height whole b starts complete e p has calm.level;
}

pub calm_at : (whole : List Instr) (p q : ℕ) → p ≡ q → IsLoopFree whole p → IsLoopFree whole q
calm_at whole p q same calm = subst (IsLoopFree whole) same calm

pub calm_round : (whole : List Instr) (p q n : ℕ) → IsLoopFree whole p → Round whole p q n
calm_round whole p q n calm = record { each = λ k l is before. inl (calm.closed.each k l is (omega arith) before) }

pub calm_outer : (whole : List Instr) (p q : ℕ) → Closed whole 0 p → Outer whole p q
calm_outer whole p q closed = record { each = λ k l is before. inl (closed.each k l is (omega arith) before) }

-- ---- where blocks begin
calm_by : (whole : List Instr) (b : BehaviourParts) (starts : ℕ → ℕ) (order : List ℕ) (t s p : ℕ) (r : Bool)
    → IsLoopFree whole p → (r ≡ false → IsLoopFree whole (p + block_length b t + start_of b order s))
    → IsLoopFree whole (p + (if r then 0 else block_length b t + start_of b order s))
calm_by whole b starts order t s p true calm later = calm_at whole p (p + 0) (omega arith) calm
calm_by whole b starts order t s p false calm later =
    calm_at whole (p + block_length b t + start_of b order s) (p + (block_length b t + start_of b order s))
    (omega arith) (later refl)

pub calm_start : (whole : List Instr) (b : BehaviourParts) (starts : ℕ → ℕ) (order : List ℕ) (s p : ℕ)
    → HasAt whole p (blocks_code b starts order p) → IsLoopFree whole p → IsLoopFree whole (p + start_of b order s)
calm_start whole b starts [] s p has calm = calm_at whole p (p + 0) (omega arith) calm
calm_start whole b starts (t ∷ order) s p has calm =
    let part = block_code b starts (is_complete b t) (leaving b t) p in
    let q = p + block_length b t in
    calm_by whole b starts order t s p (nat_eq t s) calm
    (λ isnt. calm_start whole b starts order s q
    (has_back whole p (block_length b t) q part (blocks_code b starts order q)
    (block-length b starts (is_complete b t) (leaving b t) p) refl has)
    (calm_on whole b starts (is_complete b t) (leaving b t) p
    (has_front whole p part (blocks_code b starts order q) has) calm))
