-- What the verifier asks of the instruction at a place, and that the code of expressions has it.
use Rattle.std.proofs.Common.{◌≡◌, ◌∙◌, ⊎_elim, ℕ, ◌+◌, ◌<◌, ◌≤◌, pos, Bool, true, false, not, if◌then◌else◌, List, []}
use Rattle.std.proofs.Common.{◌∷◌, ◌++◌, length, Option, Some, None, refl, sym, ap, subst, arith, nat_lt}
use Rattle.std.specs.Prelude.{slice_get, option_to_list}
use Rattle.std.proofs.lemmas.Bool.{cases_lt, false≢true}
use Rattle.pals_base.specs.declared.behaviour.Op.{Op}
use Rattle.pals_base.specs.declared.behaviour.Op.TheVariants as op
use Rattle.pals_base.specs.ExpressionAndActionTrees.{Expression, Literal, Variable, PortRead, Fresh, Neg, Abs, Not}
use Rattle.pals_base.specs.ExpressionAndActionTrees.{Chain, Operands}
use Rattle.pals_base.specs.ExpressionAndActionTrees.{NoMore, Then}
use Rattle.step_code.specs.declared.instr.Instr.{Instr}
use Rattle.step_code.specs.declared.instr.Instr.TheVariants as code
use Rattle.step_code.specs.declared.instr.CodeParts.{CodeParts}
use Rattle.step_code.specs.SuccessorsAndWeights.{jump_of, may_go_on, next_of}
use Rattle.step_code.specs.proof.StackHeights.{takes, after, Member, back_of, all_successors}
use Rattle.step_code.specs.proof.VerifierRules.{stays, lacks_loop, misses_slot}
use Rattle.step_code.specs.CodeLengths.{operand_length, length_of, length_rest}
use Rattle.step_compiler.specs.ExpressionAndActionInstructions.{operator, operand_code, code_of, code_rest}
use Rattle.step_compiler.proofs.BehaviourAccessBounds.{Sees, SeesAll}
use Rattle.step_compiler.proofs.PlacedCodeLengths.{HasAt, has_front, has_back, code-length, operand-length}
use Rattle.step_compiler.proofs.StackHeights.{next_height, height, height_next, height_at, Right, operand_height}
use Rattle.step_compiler.proofs.StackHeights.{expr_height}

-- what the verifier asks of the instruction at a place
pub record IsFine (c : CodeParts) (p : ℕ) (i : Instr) : Type 0 where
  pub jump : (t : ℕ) → jump_of i ≡ Some t → (p < t) × (t < length c.instrs) × (stays c.instrs p t ≡ true)
  pub next : may_go_on i ≡ true → p + 1 < length c.instrs
  pub loop : lacks_loop c.instrs p i ≡ false
  pub slot : misses_slot c p i ≡ false
  pub enough : takes i ≤ height c.instrs p
  pub level : (t : ℕ) → Member (all_successors p i) t → height c.instrs t ≡ after (height c.instrs p) i

pub record AreFine (c : CodeParts) (p q : ℕ) : Type 0 where
  pub each : (k : ℕ) (i : Instr) → p ≤ k → k < q → slice_get c.instrs k ≡ Some i → IsFine c k i

pub less_not : (a b : ℕ) → a < b → not (nat_lt a b) ≡ false
less_not a b lt = grind arith

-- ---- instructions that only continue at the next place
abbrev pub is_plain : Instr → Bool
is_plain (code.Jump to) = false
is_plain (code.JumpZero to) = false
is_plain (code.LoopStart slot low high exit) = false
is_plain (code.LoopNext slot high to) = false
is_plain (code.End state) = false
is_plain other = true

record IsPlain (whole : List Instr) (p h : ℕ) (i : Instr) : Type 0 where
  jump : jump_of i ≡ None
  back : back_of i ≡ None
  on : may_go_on i ≡ true
  loop : lacks_loop whole p i ≡ false
  next : next_height h (Some i) ≡ after h i

plain : (whole : List Instr) (p h : ℕ) (i : Instr) → is_plain i ≡ true → IsPlain whole p h i
plain whole p h (code.Jump to) is = absurd (false≢true is)
plain whole p h (code.JumpZero to) is = absurd (false≢true is)
plain whole p h (code.LoopStart slot low high exit) is = absurd (false≢true is)
plain whole p h (code.LoopNext slot high to) is = absurd (false≢true is)
plain whole p h (code.End state) is = absurd (false≢true is)
plain whole p h other is = record { jump = refl; back = refl; on = refl; loop = refl; next = refl }

no_jump : (o : Option ℕ) (t : ℕ) → o ≡ None → o ≡ Some t → ⊥
no_jump o t none is = (let clash : ◌≡◌ {A = Option ℕ} None (Some t) = sym none ∙ is in absurd cc)

module _ (c : CodeParts) where
  pub one_fine : (p q : ℕ) (i : Instr) → slice_get c.instrs p ≡ Some i → q ≡ p + 1 → IsFine c p i → AreFine c p q
  one_fine p q i is at fine = record {
    each = λ k j from before there.
        let same : k ≡ p = omega arith in
        let found : Some i ≡ Some j = sym is ∙ ap (slice_get c.instrs) (sym same) ∙ there in
        let one : i ≡ j = cc in
        subst (λ x. IsFine c x j) (sym same) (subst (IsFine c p) one fine);
  }

  pub both_fine : (p q r : ℕ) → AreFine c p q → AreFine c q r → AreFine c p r
  both_fine p q r first second =
      record {
        each = λ k i from before there.
            ⊎_elim (λ (early : k < q). first.each k i from early there)
            (λ (late : q ≤ k). second.each k i late before there) (cases_lt k q);
      }

  pub none_fine : (p q : ℕ) → q ≤ p → AreFine c p q
  none_fine p q le = record { each = λ k i from before there. absurd (omega arith) }

  pub fine_at : (p q r : ℕ) → q ≡ r → AreFine c p q → AreFine c p r
  fine_at p q r same fine = subst (AreFine c p) same fine

  pub plain_fine : (p h : ℕ) (i : Instr) → is_plain i ≡ true → slice_get c.instrs p ≡ Some i → p + 1 < length c.instrs
      → height c.instrs p ≡ h → takes i ≤ h → misses_slot c p i ≡ false → AreFine c p (p + 1)
  plain_fine p h i is here inside at enough slot =
      let f = plain c.instrs p h i is in
      let only : all_successors p i ≡ (p + 1) ∷ [] =
      ap (λ o. option_to_list o ++ (option_to_list (jump_of i) ++ option_to_list (next_of p i))) f.back
      ∙ ap (λ o. option_to_list o ++ option_to_list (next_of p i)) f.jump
      ∙ ap (λ b. option_to_list (if b then Some (p + 1) else None)) f.on in
      one_fine p (p + 1) i here refl (record {
        jump = λ t jumps. absurd (no_jump (jump_of i) t f.jump jumps);
        next = λ goes. inside;
        loop = f.loop;
        slot = slot;
        enough = subst (λ k. takes i ≤ k) (sym at) enough;
        level = λ t way.
            ⊎_elim (λ (to : p + 1 ≡ t). ap (height c.instrs) (sym to) ∙ height_next c.instrs p h i here at ∙ f.next
            ∙ ap (λ k. after k i) (sym at)) (λ none. absurd none) (subst (λ xs. Member xs t) only way);
      })

  pub jump_fine : (p to h : ℕ) → slice_get c.instrs p ≡ Some (code.Jump to) → p < to → to < length c.instrs
      → stays c.instrs p to ≡ true → height c.instrs p ≡ h → height c.instrs to ≡ h → AreFine c p (p + 1)
  jump_fine p to h here later inside within at there = one_fine p (p + 1) (code.Jump to) here refl (record {
    jump = λ t is. let same : to ≡ t = cc in
        subst (λ x. (p < x) × (x < length c.instrs) × (stays c.instrs p x ≡ true)) same (later, inside, within);
    next = λ goes. absurd (false≢true goes);
    loop = refl;
    slot = refl;
    enough = omega arith;
    level =
        λ t way. ⊎_elim (λ (is : to ≡ t). ap (height c.instrs) (sym is) ∙ there ∙ sym at ∙ omega arith)
        (λ none. absurd none) way;
  })

  pub zero_fine : (p to h : ℕ) → slice_get c.instrs p ≡ Some (code.JumpZero to) → p < to → to < length c.instrs
      → stays c.instrs p to ≡ true → p + 1 < length c.instrs → height c.instrs p ≡ h + 1 → height c.instrs to ≡ h
      → AreFine c p (p + 1)
  zero_fine p to h here later inside within on at there =
      let next = height_next c.instrs p (h + 1) (code.JumpZero to) here at in
      one_fine p (p + 1) (code.JumpZero to) here refl (record {
        jump = λ t is. let same : to ≡ t = cc in
            subst (λ x. (p < x) × (x < length c.instrs) × (stays c.instrs p x ≡ true)) same (later, inside, within);
        next = λ goes. on;
        loop = refl;
        slot = refl;
        enough = omega arith;
        level = λ t way.
            ⊎_elim (λ (is : to ≡ t). let e = ap (height c.instrs) is in omega arith)
            (λ rest. ⊎_elim (λ (is : p + 1 ≡ t). let e = ap (height c.instrs) is in omega arith)
            (λ none. absurd none) rest) way;
      })

  -- ---- expressions, in a stretch without loops
  module _ (first last n m : ℕ) (stays_in : (k t : ℕ) → first ≤ k → k < t → t ≤ last → stays c.instrs k t ≡ true)
      (inside : last < length c.instrs) (slots : n ≤ c.vars + c.loops) (ins : m ≡ c.ins) where
    abbrev FineRight : (ℕ → List Instr) → ℕ → Type 0
    FineRight right size =
        (q k : ℕ) → first ≤ q → q + size ≤ last → HasAt c.instrs q (right q) → height c.instrs q ≡ k
        → AreFine c q (q + size)

    and_fine : (size p h : ℕ) (right : ℕ → List Instr) → ((q : ℕ) → length (right q) ≡ size) → Right c.instrs right size
        → FineRight right size → first ≤ p → p + (size + 3) ≤ last
        → HasAt c.instrs p (operand_code op.AndThen size right p) → height c.instrs p ≡ h + 1
        → AreFine c p (p + (size + 3))
    and_fine size p h right len levels fine from before has at =
        let z = p + size + 2 in
        let end = p + size + 3 in
        let q = p + 1 + size in
        let tail =
        has_back c.instrs (p + 1) size q (right (p + 1)) (code.Jump end ∷ code.Push (pos 0) ∷ []) (len (p + 1))
        refl has.1 in
        let there = has_front c.instrs (p + 1) (right (p + 1)) (code.Jump end ∷ code.Push (pos 0) ∷ []) has.1 in
        let one : height c.instrs (p + 1) ≡ h = height_next c.instrs p (h + 1) (code.JumpZero z) has.0 at
        ∙ omega arith in
        let two = levels (p + 1) h there one in
        let three : height c.instrs (q + 1) ≡ h = height_next c.instrs q (h + 1) (code.Jump end) tail.0 two
        ∙ omega arith in
        let four : height c.instrs (q + 1 + 1) ≡ h + 1 =
        height_next c.instrs (q + 1) h (code.Push (pos 0)) tail.1.0 three ∙ omega arith in
        let at_z = height_at c.instrs (q + 1) z h (omega arith) three in
        let at_end = height_at c.instrs (q + 1 + 1) end (h + 1) (omega arith) four in
        both_fine p (p + 1) (p + (size + 3))
        (zero_fine p z h has.0 (omega arith) (omega arith) (stays_in p z from (omega arith) (omega arith))
        (omega arith) at at_z)
        (both_fine (p + 1) q (p + (size + 3)) (fine (p + 1) h (omega arith) (omega arith) there one)
        (both_fine q (q + 1) (p + (size + 3))
        (jump_fine q end (h + 1) tail.0 (omega arith) (omega arith)
        (stays_in q end (omega arith) (omega arith) (omega arith)) two at_end)
        (fine_at (q + 1) (q + 1 + 1) (p + (size + 3)) (omega arith)
        (plain_fine (q + 1) h (code.Push (pos 0)) refl tail.1.0 (omega arith) three (omega arith) refl))))

    or_fine : (size p h : ℕ) (right : ℕ → List Instr) → ((q : ℕ) → length (right q) ≡ size) → Right c.instrs right size
        → FineRight right size → first ≤ p → p + (size + 3) ≤ last
        → HasAt c.instrs p (operand_code op.OrElse size right p) → height c.instrs p ≡ h + 1
        → AreFine c p (p + (size + 3))
    or_fine size p h right len levels fine from before has at =
        let end = p + size + 3 in
        let one : height c.instrs (p + 1) ≡ h = height_next c.instrs p (h + 1) (code.JumpZero (p + 3)) has.0 at
        ∙ omega arith in
        let two : height c.instrs (p + 1 + 1) ≡ h + 1 = height_next c.instrs (p + 1) h (code.Push (pos 1)) has.1.0 one
        ∙ omega arith in
        let three : height c.instrs (p + 1 + 1 + 1) ≡ h =
        height_next c.instrs (p + 1 + 1) (h + 1) (code.Jump end) has.1.1.0 two ∙ omega arith in
        let place : p + 1 + 1 + 1 ≡ p + 3 = omega arith in
        let there = subst (λ k. HasAt c.instrs k (right (p + 3))) place has.1.1.1 in
        let at_3 = height_at c.instrs (p + 1 + 1 + 1) (p + 3) h place three in
        let at_end = height_at c.instrs (p + 3 + size) end (h + 1) (omega arith) (levels (p + 3) h there at_3) in
        both_fine p (p + 1) (p + (size + 3))
        (zero_fine p (p + 3) h has.0 (omega arith) (omega arith)
        (stays_in p (p + 3) from (omega arith) (omega arith)) (omega arith) at at_3)
        (both_fine (p + 1) (p + 1 + 1) (p + (size + 3))
        (plain_fine (p + 1) h (code.Push (pos 1)) refl has.1.0 (omega arith) one (omega arith) refl)
        (both_fine (p + 1 + 1) (p + 1 + 1 + 1) (p + (size + 3))
        (jump_fine (p + 1 + 1) end (h + 1) has.1.1.0 (omega arith) (omega arith)
        (stays_in (p + 1 + 1) end (omega arith) (omega arith) (omega arith)) two at_end)
        (subst (λ k. AreFine c k (p + (size + 3))) (sym place)
        (fine_at (p + 3) (p + 3 + size) (p + (size + 3)) (omega arith)
        (fine (p + 3) h (omega arith) (omega arith) there at_3)))))

    two_fine : (o : Op) (size p h : ℕ) (right : ℕ → List Instr) → is_plain (operator o) ≡ true → takes (operator o) ≡ 2
        → ((q : ℕ) → misses_slot c q (operator o) ≡ false) → ((q : ℕ) → length (right q) ≡ size)
        → Right c.instrs right size → FineRight right size
        → first ≤ p → p + (size + 1) ≤ last → HasAt c.instrs p (right p ++ operator o ∷ []) → height c.instrs p ≡ h + 1
        → AreFine c p (p + (size + 1))
    two_fine o size p h right is two slot len levels fine from before has at =
        let q = p + size in
        let front = has_front c.instrs p (right p) (operator o ∷ []) has in
        let here = (has_back c.instrs p size q (right p) (operator o ∷ []) (len p) refl has).0 in
        both_fine p q (p + (size + 1)) (fine p (h + 1) from (omega arith) front at)
        (fine_at q (q + 1) (p + (size + 1)) (omega arith)
        (plain_fine q (h + 1 + 1) (operator o) is here (omega arith) (levels p (h + 1) front at)
        (omega arith) (slot q)))

    operand_fine : (o : Op) (size p h : ℕ) (right : ℕ → List Instr) → ((q : ℕ) → length (right q) ≡ size)
        → Right c.instrs right size → FineRight right size → first ≤ p → p + operand_length o size ≤ last
        → HasAt c.instrs p (operand_code o size right p) → height c.instrs p ≡ h + 1
        → AreFine c p (p + operand_length o size)
    operand_fine op.AndThen size p h right len levels fine from before has at =
        and_fine size p h right len levels fine from before has at
    operand_fine op.OrElse size p h right len levels fine from before has at =
        or_fine size p h right len levels fine from before has at
    operand_fine op.Add size p h right len levels fine from before has at =
        two_fine op.Add size p h right refl refl (λ q. refl) len levels fine from before has at
    operand_fine op.Sub size p h right len levels fine from before has at =
        two_fine op.Sub size p h right refl refl (λ q. refl) len levels fine from before has at
    operand_fine op.Mul size p h right len levels fine from before has at =
        two_fine op.Mul size p h right refl refl (λ q. refl) len levels fine from before has at
    operand_fine op.Quot size p h right len levels fine from before has at =
        two_fine op.Quot size p h right refl refl (λ q. refl) len levels fine from before has at
    operand_fine op.Mod size p h right len levels fine from before has at =
        two_fine op.Mod size p h right refl refl (λ q. refl) len levels fine from before has at
    operand_fine op.Rem size p h right len levels fine from before has at =
        two_fine op.Rem size p h right refl refl (λ q. refl) len levels fine from before has at
    operand_fine op.Eq size p h right len levels fine from before has at =
        two_fine op.Eq size p h right refl refl (λ q. refl) len levels fine from before has at
    operand_fine op.Ne size p h right len levels fine from before has at =
        two_fine op.Ne size p h right refl refl (λ q. refl) len levels fine from before has at
    operand_fine op.Lt size p h right len levels fine from before has at =
        two_fine op.Lt size p h right refl refl (λ q. refl) len levels fine from before has at
    operand_fine op.Le size p h right len levels fine from before has at =
        two_fine op.Le size p h right refl refl (λ q. refl) len levels fine from before has at
    operand_fine op.Gt size p h right len levels fine from before has at =
        two_fine op.Gt size p h right refl refl (λ q. refl) len levels fine from before has at
    operand_fine op.Ge size p h right len levels fine from before has at =
        two_fine op.Ge size p h right refl refl (λ q. refl) len levels fine from before has at
    operand_fine op.And size p h right len levels fine from before has at =
        two_fine op.And size p h right refl refl (λ q. refl) len levels fine from before has at
    operand_fine op.Or size p h right len levels fine from before has at =
        two_fine op.Or size p h right refl refl (λ q. refl) len levels fine from before has at
    operand_fine op.Xor size p h right len levels fine from before has at =
        two_fine op.Xor size p h right refl refl (λ q. refl) len levels fine from before has at

    unary_fine : (i : Instr) (e : Expression) (p h : ℕ) → is_plain i ≡ true → takes i ≡ 1
        → ((q : ℕ) → misses_slot c q i ≡ false) → AreFine c p (p + length_of e) → p + (length_of e + 1) ≤ last
        → HasAt c.instrs p (code_of e p ++ i ∷ []) → height c.instrs p ≡ h
        → AreFine c p (p + (length_of e + 1))
    unary_fine i e p h is one slot fine before has at =
        let q = p + length_of e in
        let here = (has_back c.instrs p (length_of e) q (code_of e p) (i ∷ []) (code-length e p) refl has).0 in
        both_fine p q (p + (length_of e + 1)) fine
        (fine_at q (q + 1) (p + (length_of e + 1)) (omega arith)
        (plain_fine q (h + 1) i is here (omega arith)
        (expr_height c.instrs e p h (has_front c.instrs p (code_of e p) (i ∷ []) has) at)
        (omega arith) (slot q)))

    mutual
      pub expr_fine : (e : Expression) (p h : ℕ) → first ≤ p → p + length_of e ≤ last → HasAt c.instrs p (code_of e p)
          → height c.instrs p ≡ h → Sees n m e → AreFine c p (p + length_of e)
      expr_fine (Literal v) p h from before has at sees =
          plain_fine p h (code.Push v) refl has.0 (omega arith) at (omega arith) refl
      expr_fine (Variable x) p h from before has at sees =
          plain_fine p h (code.Load x) refl has.0 (omega arith) at (omega arith)
          (less_not x (c.vars + c.loops) (omega arith))
      expr_fine (PortRead x) p h from before has at sees =
          plain_fine p h (code.Port x) refl has.0 (omega arith) at (omega arith) (less_not x c.ins (omega arith))
      expr_fine (Fresh x) p h from before has at sees =
          plain_fine p h (code.Fresh x) refl has.0 (omega arith) at (omega arith) (less_not x c.ins (omega arith))
      expr_fine (Neg e) p h from before has at sees =
          unary_fine code.Neg e p h refl refl (λ q. refl)
          (expr_fine e p h from (omega arith) (has_front c.instrs p (code_of e p) (code.Neg ∷ []) has) at sees)
          before has at
      expr_fine (Abs e) p h from before has at sees =
          unary_fine code.Abs e p h refl refl (λ q. refl)
          (expr_fine e p h from (omega arith) (has_front c.instrs p (code_of e p) (code.Abs ∷ []) has) at sees)
          before has at
      expr_fine (Not e) p h from before has at sees =
          unary_fine code.Not e p h refl refl (λ q. refl)
          (expr_fine e p h from (omega arith) (has_front c.instrs p (code_of e p) (code.Not ∷ []) has) at sees)
          before has at
      expr_fine (Chain head rest) p h from before has at sees =
          let q = p + length_of head in
          let front = has_front c.instrs p (code_of head p) (code_rest rest q) has in
          both_fine p q (p + (length_of head + length_rest rest))
          (expr_fine head p h from (omega arith) front at sees.0)
          (fine_at q (q + length_rest rest) (p + (length_of head + length_rest rest)) (omega arith)
          (rest_fine rest q h (omega arith) (omega arith)
          (has_back c.instrs p (length_of head) q (code_of head p) (code_rest rest q) (code-length head p) refl has)
          (expr_height c.instrs head p h front at) sees.1))

      rest_fine : (os : Operands) (p h : ℕ) → first ≤ p → p + length_rest os ≤ last → HasAt c.instrs p (code_rest os p)
          → height c.instrs p ≡ h + 1 → SeesAll n m os → AreFine c p (p + length_rest os)
      rest_fine NoMore p h from before has at sees = none_fine p (p + 0) (omega arith)
      rest_fine (Then o e rest) p h from before has at sees =
          let size = operand_length o (length_of e) in
          let q = p + size in
          let part = operand_code o (length_of e) (code_of e) p in
          let front = has_front c.instrs p part (code_rest rest q) has in
          both_fine p q (p + (size + length_rest rest))
          (operand_fine o (length_of e) p h (code_of e) (code-length e)
          (λ k j there level. expr_height c.instrs e k j there level)
          (λ k j from' before' there level. expr_fine e k j from' before' there level sees.0) from
          (omega arith) front at)
          (fine_at q (q + length_rest rest) (p + (size + length_rest rest)) (omega arith)
          (rest_fine rest q h (omega arith) (omega arith)
          (has_back c.instrs p size q part (code_rest rest q)
          (operand-length o (length_of e) p (code_of e) (code-length e)) refl has)
          (operand_height c.instrs o (length_of e) p h (code_of e) (code-length e)
          (λ k j there level. expr_height c.instrs e k j there level) front at) sees.1))
