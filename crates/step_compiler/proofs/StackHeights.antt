-- The height of the stack at each place of laid-out code.
use Rattle.std.proofs.Common.{◌≡◌, ◌∙◌, ℕ, zero, suc, ◌+◌, ◌-◌, pos, Bool, true, false, if◌then◌else◌, List, [], ◌∷◌}
use Rattle.std.proofs.Common.{◌++◌, length, Option, Some, None, refl, sym, ap, subst, arith, add-one}
use Rattle.std.specs.Prelude.{slice_get}
use Rattle.pals_base.specs.declared.behaviour.BehaviourParts.{BehaviourParts}
use Rattle.pals_base.specs.declared.behaviour.Op.{Op}
use Rattle.pals_base.specs.declared.behaviour.Op.TheVariants as op
use Rattle.pals_base.specs.SingleStep.{is_complete}
use Rattle.pals_base.specs.ExpressionAndActionTrees.{Expression, Literal, Variable, PortRead, Fresh, Neg, Abs, Not}
use Rattle.pals_base.specs.ExpressionAndActionTrees.{Chain, Operands}
use Rattle.pals_base.specs.ExpressionAndActionTrees.{NoMore, Then, Action, Assign, Emit, If, For, Actions, Nothing, Do}
use Rattle.pals_base.specs.ExpressionAndActionTrees.{Branches}
use Rattle.pals_base.specs.ExpressionAndActionTrees.{NoBranch, Where, Edge, Trigger, Dispatch, Always, When}
use Rattle.step_code.specs.declared.instr.Instr.{Instr}
use Rattle.step_code.specs.declared.instr.Instr.TheVariants as code
use Rattle.step_code.specs.proof.StackHeights.{after}
use Rattle.step_code.specs.CodeLengths.{operand_length, length_of, length_rest, length_act, length_acts}
use Rattle.step_code.specs.CodeLengths.{length_branches, length_trigger, length_edge, length_edges}
use Rattle.step_compiler.specs.ExpressionAndActionInstructions.{operator, operand_code, code_of, code_rest, code_act}
use Rattle.step_compiler.specs.ExpressionAndActionInstructions.{code_acts}
use Rattle.step_compiler.specs.ExpressionAndActionInstructions.{code_branches}
use Rattle.step_compiler.specs.BlockInstructions.{trigger_code, last_instr, false_guard_target, edge_code, block_code}
use Rattle.step_compiler.proofs.PlacedCodeLengths.{HasAt, has_front, has_back, code-length, operand-length, act-length}
use Rattle.step_compiler.proofs.PlacedCodeLengths.{acts-length, branches-length, trigger-length, edge-length}

-- the code after a jump is for one number fewer, or for none
abbrev pub next_height : ℕ → Option Instr → ℕ
next_height h None = h
next_height h (Some (code.Jump to)) = h - 1
next_height h (Some other) = after h other

abbrev pub height : List Instr → ℕ → ℕ
height whole zero = 0
height whole (suc p) = next_height (height whole p) (slice_get whole p)

module _ (whole : List Instr) where
  pub height_next : (p h : ℕ) (i : Instr) → slice_get whole p ≡ Some i → height whole p ≡ h
      → height whole (p + 1) ≡ next_height h (Some i)
  height_next p h i is at =
      ap (height whole) (add-one p) ∙ ap (next_height (height whole p)) is ∙ ap (λ k. next_height k (Some i)) at

  pub height_at : (p q h : ℕ) → p ≡ q → height whole p ≡ h → height whole q ≡ h
  height_at p q h same at = ap (height whole) (sym same) ∙ at

  -- a part, and one instruction after it
  one_behind : (p n q h k : ℕ) (c : List Instr) (i : Instr) → HasAt whole p (c ++ i ∷ []) → length c ≡ n → p + n + 1 ≡ q
      → height whole (p + n) ≡ h → next_height h (Some i) ≡ k → height whole q ≡ k
  one_behind p n q h k c i has len place at next =
      height_at (p + n + 1) q k place
      (height_next (p + n) h i (has_back whole p n (p + n) c (i ∷ []) len refl has).0 at ∙ next)

  abbrev pub Right : (ℕ → List Instr) → ℕ → Type 0
  Right right n = (q k : ℕ) → HasAt whole q (right q) → height whole q ≡ k → height whole (q + n) ≡ k + 1

  both_height : (o : Op) (n p h : ℕ) (right : ℕ → List Instr) → next_height (h + 1 + 1) (Some (operator o)) ≡ h + 1
      → ((q : ℕ) → length (right q) ≡ n) → Right right n → HasAt whole p (right p ++ operator o ∷ [])
      → height whole p ≡ h + 1
      → height whole (p + (n + 1)) ≡ h + 1
  both_height o n p h right next len runs has at =
      one_behind p n (p + (n + 1)) (h + 1 + 1) (h + 1) (right p) (operator o) has (len p) (omega arith)
      (runs p (h + 1) (has_front whole p (right p) (operator o ∷ []) has) at) next

  pub operand_height : (o : Op) (n p h : ℕ) (right : ℕ → List Instr) → ((q : ℕ) → length (right q) ≡ n) → Right right n
      → HasAt whole p (operand_code o n right p) → height whole p ≡ h + 1
      → height whole (p + operand_length o n) ≡ h + 1
  operand_height op.AndThen n p h right len runs has at =
      let first : height whole (p + 1) ≡ h = height_next p (h + 1) (code.JumpZero (p + n + 2)) has.0 at ∙ omega arith in
      let tail =
      has_back whole (p + 1) n (p + 1 + n) (right (p + 1)) (code.Jump (p + n + 3) ∷ code.Push (pos 0) ∷ [])
      (len (p + 1)) refl has.1 in
      let second =
      runs (p + 1) h (has_front whole (p + 1) (right (p + 1)) (code.Jump (p + n + 3) ∷ code.Push (pos 0) ∷ [])
      has.1) first in
      let third : height whole (p + 1 + n + 1) ≡ h =
      height_next (p + 1 + n) (h + 1) (code.Jump (p + n + 3)) tail.0 second ∙ omega arith in
      let last : height whole (p + 1 + n + 1 + 1) ≡ h + 1 =
      height_next (p + 1 + n + 1) h (code.Push (pos 0)) tail.1.0 third ∙ omega arith in
      height_at (p + 1 + n + 1 + 1) (p + (n + 3)) (h + 1) (omega arith) last
  operand_height op.OrElse n p h right len runs has at =
      let first : height whole (p + 1) ≡ h = height_next p (h + 1) (code.JumpZero (p + 3)) has.0 at ∙ omega arith in
      let second : height whole (p + 1 + 1) ≡ h + 1 = height_next (p + 1) h (code.Push (pos 1)) has.1.0 first
      ∙ omega arith in
      let third : height whole (p + 1 + 1 + 1) ≡ h =
      height_next (p + 1 + 1) (h + 1) (code.Jump (p + n + 3)) has.1.1.0 second ∙ omega arith in
      let place : p + 1 + 1 + 1 ≡ p + 3 = omega arith in
      height_at (p + 3 + n) (p + (n + 3)) (h + 1) (omega arith)
      (runs (p + 3) h (subst (λ k. HasAt whole k (right (p + 3))) place has.1.1.1)
      (height_at (p + 1 + 1 + 1) (p + 3) h place third))
  operand_height op.Add n p h right len runs has at = both_height op.Add n p h right (omega arith) len runs has at
  operand_height op.Sub n p h right len runs has at = both_height op.Sub n p h right (omega arith) len runs has at
  operand_height op.Mul n p h right len runs has at = both_height op.Mul n p h right (omega arith) len runs has at
  operand_height op.Quot n p h right len runs has at = both_height op.Quot n p h right (omega arith) len runs has at
  operand_height op.Mod n p h right len runs has at = both_height op.Mod n p h right (omega arith) len runs has at
  operand_height op.Rem n p h right len runs has at = both_height op.Rem n p h right (omega arith) len runs has at
  operand_height op.Eq n p h right len runs has at = both_height op.Eq n p h right (omega arith) len runs has at
  operand_height op.Ne n p h right len runs has at = both_height op.Ne n p h right (omega arith) len runs has at
  operand_height op.Lt n p h right len runs has at = both_height op.Lt n p h right (omega arith) len runs has at
  operand_height op.Le n p h right len runs has at = both_height op.Le n p h right (omega arith) len runs has at
  operand_height op.Gt n p h right len runs has at = both_height op.Gt n p h right (omega arith) len runs has at
  operand_height op.Ge n p h right len runs has at = both_height op.Ge n p h right (omega arith) len runs has at
  operand_height op.And n p h right len runs has at = both_height op.And n p h right (omega arith) len runs has at
  operand_height op.Or n p h right len runs has at = both_height op.Or n p h right (omega arith) len runs has at
  operand_height op.Xor n p h right len runs has at = both_height op.Xor n p h right (omega arith) len runs has at

  mutual
    pub expr_height : (e : Expression) (p h : ℕ) → HasAt whole p (code_of e p) → height whole p ≡ h
        → height whole (p + length_of e) ≡ h + 1
    expr_height (Literal n) p h has at = height_next p h (code.Push n) has.0 at ∙ omega arith
    expr_height (Variable x) p h has at = height_next p h (code.Load x) has.0 at ∙ omega arith
    expr_height (PortRead x) p h has at = height_next p h (code.Port x) has.0 at ∙ omega arith
    expr_height (Fresh x) p h has at = height_next p h (code.Fresh x) has.0 at ∙ omega arith
    expr_height (Neg e) p h has at =
        one_behind p (length_of e) (p + (length_of e + 1)) (h + 1) (h + 1) (code_of e p) code.Neg has (code-length e p)
        (omega arith) (expr_height e p h (has_front whole p (code_of e p) (code.Neg ∷ []) has) at) (omega arith)
    expr_height (Abs e) p h has at =
        one_behind p (length_of e) (p + (length_of e + 1)) (h + 1) (h + 1) (code_of e p) code.Abs has (code-length e p)
        (omega arith) (expr_height e p h (has_front whole p (code_of e p) (code.Abs ∷ []) has) at) (omega arith)
    expr_height (Not e) p h has at =
        one_behind p (length_of e) (p + (length_of e + 1)) (h + 1) (h + 1) (code_of e p) code.Not has (code-length e p)
        (omega arith) (expr_height e p h (has_front whole p (code_of e p) (code.Not ∷ []) has) at) (omega arith)
    expr_height (Chain first rest) p h has at =
        let q = p + length_of first in
        height_at (q + length_rest rest) (p + (length_of first + length_rest rest)) (h + 1) (omega arith)
        (rest_height rest q h (has_back whole p (length_of first) q (code_of first p) (code_rest rest q)
        (code-length first p) refl has)
        (expr_height first p h (has_front whole p (code_of first p) (code_rest rest q) has) at))

    pub rest_height : (os : Operands) (p h : ℕ) → HasAt whole p (code_rest os p) → height whole p ≡ h + 1
        → height whole (p + length_rest os) ≡ h + 1
    rest_height NoMore p h has at = height_at p (p + 0) (h + 1) (omega arith) at
    rest_height (Then o e rest) p h has at =
        let q = p + operand_length o (length_of e) in
        let c = operand_code o (length_of e) (code_of e) p in
        height_at (q + length_rest rest) (p + (operand_length o (length_of e) + length_rest rest)) (h + 1) (omega arith)
        (rest_height rest q h (has_back whole p (operand_length o (length_of e)) q c (code_rest rest q)
        (operand-length o (length_of e) p (code_of e) (code-length e)) refl has)
        (operand_height o (length_of e) p h (code_of e) (code-length e)
        (λ k j there level. expr_height e k j there level) (has_front whole p c (code_rest rest q) has) at))

  mutual
    pub act_height : (a : Action) (n p : ℕ) → HasAt whole p (code_act a n p) → height whole p ≡ 0
        → height whole (p + length_act a) ≡ 0
    act_height (Assign x e) n p has at =
        one_behind p (length_of e) (p + (length_of e + 1)) 1 0 (code_of e p) (code.Store x) has (code-length e p)
        (omega arith) (expr_height e p 0 (has_front whole p (code_of e p) (code.Store x ∷ []) has) at) refl
    act_height (Emit x e) n p has at =
        one_behind p (length_of e) (p + (length_of e + 1)) 1 0 (code_of e p) (code.Emit x) has (code-length e p)
        (omega arith) (expr_height e p 0 (has_front whole p (code_of e p) (code.Emit x ∷ []) has) at) refl
    act_height (If branches otherwise) n p has at =
        let q = p + length_branches branches in
        let end = p + length_branches branches + length_acts otherwise in
        let c = code_branches branches n end p in
        height_at (q + length_acts otherwise) (p + (length_branches branches + length_acts otherwise)) 0 (omega arith)
        (acts_height otherwise n q
        (has_back whole p (length_branches branches) q c (code_acts otherwise n q)
        (branches-length branches n end p) refl has)
        (branches_height branches n end p (has_front whole p c (code_acts otherwise n q) has) at))
    act_height (For low high body) n p has at =
        let m = length_acts body in
        let first : height whole (p + 1) ≡ 0 = height_next p 0 (code.LoopStart n low high (p + m + 2)) has.0 at in
        one_behind (p + 1) m (p + (m + 2)) 0 0 (code_acts body (n + 1) (p + 1)) (code.LoopNext n high (p + 1)) has.1
        (acts-length body (n + 1) (p + 1)) (omega arith)
        (acts_height body (n + 1) (p + 1)
        (has_front whole (p + 1) (code_acts body (n + 1) (p + 1)) (code.LoopNext n high (p + 1) ∷ [])
        has.1) first) refl

    pub acts_height : (as' : Actions) (n p : ℕ) → HasAt whole p (code_acts as' n p) → height whole p ≡ 0
        → height whole (p + length_acts as') ≡ 0
    acts_height Nothing n p has at = height_at p (p + 0) 0 (omega arith) at
    acts_height (Do a rest) n p has at =
        let q = p + length_act a in
        height_at (q + length_acts rest) (p + (length_act a + length_acts rest)) 0 (omega arith)
        (acts_height rest n q (has_back whole p (length_act a) q (code_act a n p) (code_acts rest n q)
        (act-length a n p) refl has)
        (act_height a n p (has_front whole p (code_act a n p) (code_acts rest n q) has) at))

    pub branches_height : (bs : Branches) (n end p : ℕ) → HasAt whole p (code_branches bs n end p) → height whole p ≡ 0
        → height whole (p + length_branches bs) ≡ 0
    branches_height NoBranch n end p has at = height_at p (p + 0) 0 (omega arith) at
    branches_height (Where guard actions rest) n end p has at =
        let g = length_of guard in
        let m = length_acts actions in
        let r = p + g in
        let later = p + g + m + 2 in
        let body = code_acts actions n (r + 1) in
        let tail = code.Jump end ∷ code_branches rest n end later in
        let back =
        has_back whole p g r (code_of guard p) (code.JumpZero later ∷ (body ++ tail))
        (code-length guard p) refl has in
        let behind = has_back whole (r + 1) m (r + 1 + m) body tail (acts-length actions n (r + 1)) refl back.1 in
        let place : r + 1 + m + 1 ≡ later = omega arith in
        let first =
        expr_height guard p 0 (has_front whole p (code_of guard p) (code.JumpZero later ∷ (body ++ tail)) has) at in
        let second : height whole (r + 1) ≡ 0 = height_next r 1 (code.JumpZero later) back.0 first in
        let third = acts_height actions n (r + 1) (has_front whole (r + 1) body tail back.1) second in
        let fourth : height whole (r + 1 + m + 1) ≡ 0 = height_next (r + 1 + m) 0 (code.Jump end) behind.0 third in
        height_at (later + length_branches rest) (p + (g + m + 2 + length_branches rest)) 0 (omega arith)
        (branches_height rest n end later (subst (λ k. HasAt whole k (code_branches rest n end later)) place behind.1)
        (height_at (r + 1 + m + 1) later 0 place fourth))

  -- ---- transitions and blocks
  pub trigger_height : (t : Trigger) (to p : ℕ) → HasAt whole p (trigger_code t to p) → height whole p ≡ 0
      → height whole (p + length_trigger t) ≡ 0
  trigger_height Dispatch to p has at = height_at p (p + 0) 0 (omega arith) at
  trigger_height Always to p has at = height_at p (p + 0) 0 (omega arith) at
  trigger_height (When e) to p has at =
      one_behind p (length_of e) (p + (length_of e + 1)) 1 0 (code_of e p) (code.JumpZero to) has (code-length e p)
      (omega arith) (expr_height e p 0 (has_front whole p (code_of e p) (code.JumpZero to ∷ []) has) at) refl

  last_height : (b : BehaviourParts) (starts : ℕ → ℕ) (target : ℕ)
      → next_height 0 (Some (last_instr b starts target)) ≡ 0
  last_height b starts target = by (is_complete b target)
    where
      by : (t : Bool) → next_height 0 (Some (if t then code.End target else code.Jump (starts target))) ≡ 0
      by true = refl
      by false = refl

  pub edge_height : (b : BehaviourParts) (starts : ℕ → ℕ) (complete : Bool) (e : Edge) (p : ℕ)
      → HasAt whole p (edge_code b starts complete e p) → height whole p ≡ 0 → height whole (p + length_edge e) ≡ 0
  edge_height b starts complete e p has at =
      let t = length_trigger e.trigger in
      let n = length b.vars in
      let m = length_acts e.actions in
      let guard = trigger_code e.trigger (false_guard_target complete e p) p in
      let body = code_acts e.actions n (p + t) in
      let i = last_instr b starts e.target in
      let back =
      has_back whole p t (p + t) guard (body ++ i ∷ []) (trigger-length e.trigger (false_guard_target complete e p) p)
      refl has in
      let first = trigger_height e.trigger (false_guard_target complete e p) p
      (has_front whole p guard (body ++ i ∷ []) has) at in
      one_behind (p + t) m (p + (t + m + 1)) 0 0 body i back (acts-length e.actions n (p + t)) (omega arith)
      (acts_height e.actions n (p + t) (has_front whole (p + t) body (i ∷ []) back) first)
      (last_height b starts e.target)

  pub block_height : (b : BehaviourParts) (starts : ℕ → ℕ) (complete : Bool) (es : List Edge) (p : ℕ)
      → HasAt whole p (block_code b starts complete es p) → height whole p ≡ 0 → height whole (p + length_edges es) ≡ 0
  block_height b starts complete [] p has at = height_at p (p + 0) 0 (omega arith) at
  block_height b starts complete (e ∷ es) p has at =
      let q = p + length_edge e in
      let c = edge_code b starts complete e p in
      height_at (q + length_edges es) (p + (length_edge e + length_edges es)) 0 (omega arith)
      (block_height b starts complete es q
      (has_back whole p (length_edge e) q c (block_code b starts complete es q) (edge-length b starts complete e p)
      refl has) (edge_height b starts complete e p
      (has_front whole p c (block_code b starts complete es q) has) at))
