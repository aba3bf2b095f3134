-- Code at a place, and its length.
use Rattle.std.proofs.Common.{◌≡◌, ℕ, ◌+◌, pos, Bool, List, [], ◌∷◌, ◌++◌, length, Some, refl, subst, arith}
use Rattle.std.proofs.Common.{length-append}
use Rattle.std.specs.Prelude.{slice_get}
use Rattle.pals_base.specs.declared.behaviour.BehaviourParts.{BehaviourParts}
use Rattle.pals_base.specs.declared.behaviour.Op.{Op}
use Rattle.pals_base.specs.declared.behaviour.Op.TheVariants as op
use Rattle.pals_base.specs.SingleStep.{is_complete, leaving}
use Rattle.pals_base.specs.ExpressionAndActionTrees.{Expression, Literal, Variable, PortRead, Fresh, Neg, Abs, Not}
use Rattle.pals_base.specs.ExpressionAndActionTrees.{Chain, Operands}
use Rattle.pals_base.specs.ExpressionAndActionTrees.{NoMore, Then, Action, Assign, Emit, If, For, Actions, Nothing, Do}
use Rattle.pals_base.specs.ExpressionAndActionTrees.{Branches}
use Rattle.pals_base.specs.ExpressionAndActionTrees.{NoBranch, Where, Edge, Trigger, Dispatch, Always, When}
use Rattle.step_code.specs.declared.instr.Instr.{Instr}
use Rattle.step_code.specs.declared.instr.Instr.TheVariants as code
use Rattle.step_code.specs.CodeLengths.{operand_length, length_of, length_rest, length_act, length_acts}
use Rattle.step_code.specs.CodeLengths.{length_branches, length_trigger, length_edge, length_edges}
use Rattle.step_compiler.specs.ExpressionAndActionInstructions.{operator, operand_code, code_of, code_rest, code_act}
use Rattle.step_compiler.specs.ExpressionAndActionInstructions.{code_acts}
use Rattle.step_compiler.specs.ExpressionAndActionInstructions.{code_branches}
use Rattle.step_compiler.specs.BlockInstructions.{trigger_code, last_instr, false_guard_target, edge_code, block_code}
use Rattle.step_compiler.specs.BlockInstructions.{block_length}
use Rattle.step_compiler.specs.BlockInstructions.{blocks_code}
use Rattle.step_compiler.specs.proof.BlockLengthsAndStarts.{order_length}

-- ---- code at a place
abbrev pub HasAt : List Instr → ℕ → List Instr → Type 0
HasAt whole p [] = Unit {0}
HasAt whole p (i ∷ is) = (slice_get whole p ≡ Some i) × HasAt whole (p + 1) is

pub has_front : (whole : List Instr) (p : ℕ) (a b : List Instr) → HasAt whole p (a ++ b) → HasAt whole p a
has_front whole p [] b h = tt
has_front whole p (i ∷ a) b h = (h.0, has_front whole (p + 1) a b h.1)

-- the code after a stretch of n instructions
pub has_back : (whole : List Instr) (p n q : ℕ) (a b : List Instr) → length a ≡ n → p + n ≡ q → HasAt whole p (a ++ b)
    → HasAt whole q b
has_back whole p n q [] b len e h = let f : p ≡ q = omega arith in subst (λ k. HasAt whole k b) f h
has_back whole p n q (i ∷ a) b len e h = has_back whole (p + 1) (length a) q a b refl (omega arith) h.1

-- ---- lengths
pub operand-length : (o : Op) (n p : ℕ) (right : ℕ → List Instr) → ((q : ℕ) → length (right q) ≡ n)
    → length (operand_code o n right p) ≡ operand_length o n
operand-length op.AndThen n p right len = let l = len (p + 1) in
    omega (arith, length-append (right (p + 1)) (code.Jump (p + n + 3) ∷ code.Push (pos 0) ∷ []))
operand-length op.OrElse n p right len = let l = len (p + 3) in omega arith
operand-length other n p right len = let l = len p in omega (arith, length-append (right p) (operator other ∷ []))

mutual
  pub code-length : (e : Expression) (p : ℕ) → length (code_of e p) ≡ length_of e
  code-length (Literal n) p = refl
  code-length (Variable x) p = refl
  code-length (PortRead q) p = refl
  code-length (Fresh q) p = refl
  code-length (Neg e) p = let l = code-length e p in omega (arith, length-append (code_of e p) (code.Neg ∷ []))
  code-length (Abs e) p = let l = code-length e p in omega (arith, length-append (code_of e p) (code.Abs ∷ []))
  code-length (Not e) p = let l = code-length e p in omega (arith, length-append (code_of e p) (code.Not ∷ []))
  code-length (Chain first rest) p =
      let l = code-length first p in let k = rest-length rest (p + length_of first) in
      omega (arith, length-append (code_of first p) (code_rest rest (p + length_of first)))

  pub rest-length : (os : Operands) (p : ℕ) → length (code_rest os p) ≡ length_rest os
  rest-length NoMore p = refl
  rest-length (Then o e rest) p =
      let l = operand-length o (length_of e) p (code_of e) (code-length e) in
      let k = rest-length rest (p + operand_length o (length_of e)) in
      omega (
        arith,
        length-append (operand_code o (length_of e) (code_of e) p)
            (code_rest rest (p + operand_length o (length_of e))),
      )

-- ---- actions
mutual
  pub act-length : (a : Action) (n p : ℕ) → length (code_act a n p) ≡ length_act a
  act-length (Assign x e) n p = let l = code-length e p in
      omega (arith, length-append (code_of e p) (code.Store x ∷ []))
  act-length (Emit q e) n p = let l = code-length e p in omega (arith, length-append (code_of e p) (code.Emit q ∷ []))
  act-length (If branches otherwise) n p =
      let end = p + length_branches branches + length_acts otherwise in
      let l = branches-length branches n end p in
      let k = acts-length otherwise n (p + length_branches branches) in
      omega (
        arith,
        length-append (code_branches branches n end p)
            (code_acts otherwise n (p + length_branches branches)),
      )
  act-length (For low high body) n p =
      let l = acts-length body (n + 1) (p + 1) in
      omega (arith, length-append (code_acts body (n + 1) (p + 1)) (code.LoopNext n high (p + 1) ∷ []))

  pub acts-length : (as' : Actions) (n p : ℕ) → length (code_acts as' n p) ≡ length_acts as'
  acts-length Nothing n p = refl
  acts-length (Do a rest) n p =
      let l = act-length a n p in let k = acts-length rest n (p + length_act a) in
      omega (arith, length-append (code_act a n p) (code_acts rest n (p + length_act a)))

  pub branches-length : (bs : Branches) (n end p : ℕ) → length (code_branches bs n end p) ≡ length_branches bs
  branches-length NoBranch n end p = refl
  branches-length (Where guard actions rest) n end p =
      let q = p + length_of guard + length_acts actions + 2 in
      let l = code-length guard p in
      let k = acts-length actions n (p + length_of guard + 1) in
      let j = branches-length rest n end q in
      let inner =
      length-append (code_acts actions n (p + length_of guard + 1)) (code.Jump end ∷ code_branches rest n end q) in
      omega (
        arith,
        inner,
        length-append (code_of guard p)
            (code.JumpZero q ∷ (code_acts actions n (p + length_of guard + 1)
            ++ (code.Jump end ∷ code_branches rest n end q))),
      )

-- ---- transitions
pub trigger-length : (t : Trigger) (to p : ℕ) → length (trigger_code t to p) ≡ length_trigger t
trigger-length Dispatch to p = refl
trigger-length Always to p = refl
trigger-length (When e) to p = let l = code-length e p in
    omega (arith, length-append (code_of e p) (code.JumpZero to ∷ []))

pub edge-length : (b : BehaviourParts) (starts : ℕ → ℕ) (complete : Bool) (e : Edge) (p : ℕ)
    → length (edge_code b starts complete e p) ≡ length_edge e
edge-length b starts complete e p =
    let n = length b.vars in
    let q = p + length_trigger e.trigger in
    let i = last_instr b starts e.target in
    let l = trigger-length e.trigger (false_guard_target complete e p) p in
    let k = acts-length e.actions n q in
    let inner = length-append (code_acts e.actions n q) (i ∷ []) in
    omega (
      arith,
      inner,
      length-append (trigger_code e.trigger (false_guard_target complete e p) p)
          (code_acts e.actions n q ++ i ∷ []),
    )

pub block-length : (b : BehaviourParts) (starts : ℕ → ℕ) (complete : Bool) (es : List Edge) (p : ℕ)
    → length (block_code b starts complete es p) ≡ length_edges es
block-length b starts complete [] p = refl
block-length b starts complete (e ∷ es) p =
    let l = edge-length b starts complete e p in
    let k = block-length b starts complete es (p + length_edge e) in
    omega (arith, length-append (edge_code b starts complete e p) (block_code b starts complete es (p + length_edge e)))

pub blocks-length : (b : BehaviourParts) (starts : ℕ → ℕ) (order : List ℕ) (p : ℕ)
    → length (blocks_code b starts order p) ≡ order_length b order
blocks-length b starts [] p = refl
blocks-length b starts (s ∷ order) p =
    let c = block_code b starts (is_complete b s) (leaving b s) p in
    let rest = blocks_code b starts order (p + block_length b s) in
    let l = block-length b starts (is_complete b s) (leaving b s) p in
    let k = blocks-length b starts order (p + block_length b s) in
    omega (arith, length-append c rest)
