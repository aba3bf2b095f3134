-- In compiled code, a loop that starts inside a part ends inside it, and a jump over such a part leaves and enters no
-- loop.
use Rattle.std.proofs.Common.{◌≡◌, ◌∙◌, ◌⊎◌, ℕ, zero, suc, ◌+◌, ◌<◌, ◌≤◌, ℤ, pos, Bool, true, false, ◌&&◌}
use Rattle.std.proofs.Common.{if◌then◌else◌, List, [], ◌∷◌, ◌++◌, length, Option, Some, None, refl, sym, ap, subst}
use Rattle.std.proofs.Common.{⊎_elim, arith, nat_lt}
use Rattle.std.specs.Prelude.{not, slice_get}
use Rattle.std.specs.List.{list_all}
use Rattle.std.proofs.lemmas.Bool.{cases_lt, both_ways, and_parts, le-ltb, lt-ltb}
use Rattle.pals_base.specs.declared.behaviour.Op.{Op}
use Rattle.pals_base.specs.declared.behaviour.Op.TheVariants as op
use Rattle.pals_base.specs.ExpressionAndActionTrees.{Expression, Literal, Variable, PortRead, Fresh, Neg, Abs, Not}
use Rattle.pals_base.specs.ExpressionAndActionTrees.{Chain, Operands}
use Rattle.pals_base.specs.ExpressionAndActionTrees.{NoMore, Then, Action, Assign, Emit, If, For, Actions, Nothing, Do}
use Rattle.pals_base.specs.ExpressionAndActionTrees.{Branches}
use Rattle.pals_base.specs.ExpressionAndActionTrees.{NoBranch, Where}
use Rattle.step_code.specs.declared.instr.Instr.{Instr}
use Rattle.step_code.specs.declared.instr.Instr.TheVariants as code
use Rattle.step_code.specs.declared.loops.LoopSpan.{LoopSpan}
use Rattle.step_code.specs.Loops.{loop_from, loop_at, with_loop, loops_below}
use Rattle.step_code.specs.proof.VerifierRules.{inside, agrees, stays}
use Rattle.step_code.specs.CodeLengths.{operand_length, length_of, length_act, length_acts, length_branches}
use Rattle.step_compiler.specs.ExpressionAndActionInstructions.{operand_code, code_of, code_rest, code_act, code_acts}
use Rattle.step_compiler.specs.ExpressionAndActionInstructions.{code_branches}
use Rattle.step_compiler.proofs.PlacedCodeLengths.{HasAt, has_front, has_back, code-length, act-length, acts-length}
use Rattle.step_compiler.proofs.PlacedCodeLengths.{branches-length}
use Rattle.step_code.proofs.NestingOfCleanCode.{loop_is}

-- the loops that start before a stretch end before it, or have all of it in their bodies
pub record Outer (whole : List Instr) (p q : ℕ) : Type 0 where
  pub each : (k : ℕ) (l : LoopSpan) → loop_at whole k ≡ Some l → k < p → (l.exit ≤ p) ⊎ (q < l.exit)

-- the loops that start in a stretch end in it
pub record Closed (whole : List Instr) (p q : ℕ) : Type 0 where
  pub each : (k : ℕ) (l : LoopSpan) → loop_at whole k ≡ Some l → p ≤ k → k < q → l.exit ≤ q

both_same : (b c : Bool) → b ≡ c → (if b then c else not c) ≡ true
both_same true true e = refl
both_same false false e = refl
both_same true false e = absurd (both_ways false refl (sym e))
both_same false true e = absurd (both_ways false refl e)

-- ---- a jump over such a stretch leaves and enters no body
agree : (whole : List Instr) (p q k : ℕ) (l : LoopSpan) → p < q → Outer whole p q → Closed whole p q
    → loop_at whole k ≡ Some l → inside p l ≡ inside q l
agree whole p q k l later outer closed is =
    let start = (loop_is whole k l is).start in
    ⊎_elim
    (λ (before : k < p).
    let a = lt-ltb l.start p (omega arith) in
    let b = lt-ltb l.start q (omega arith) in
    ap (λ x. x && nat_lt p l.exit) a
    ∙ ⊎_elim (λ (ended : l.exit ≤ p). le-ltb p l.exit ended ∙ sym (le-ltb q l.exit (omega arith)))
    (λ (round : q < l.exit). lt-ltb p l.exit (omega arith) ∙ sym (lt-ltb q l.exit round))
    (outer.each k l is before)
    ∙ sym (ap (λ x. x && nat_lt q l.exit) b))
    (λ (from : p ≤ k).
    ap (λ x. x && nat_lt p l.exit) (le-ltb l.start p (omega arith))
    ∙ sym (⊎_elim
    (λ (among : k < q). ap (λ x. x && nat_lt q l.exit) (lt-ltb l.start q (omega arith))
    ∙ le-ltb q l.exit (closed.each k l is from among))
    (λ (past : q ≤ k). ap (λ x. x && nat_lt q l.exit) (le-ltb l.start q (omega arith)))
    (cases_lt k q)))
    (cases_lt k p)

all_agree : (whole : List Instr) (p q n : ℕ) (o : Option LoopSpan)
    → ((k : ℕ) (l : LoopSpan) → loop_at whole k ≡ Some l → inside p l ≡ inside q l) → loop_at whole n ≡ o
    → list_all (agrees p q) (loops_below whole n) ≡ true
    → list_all (agrees p q) (with_loop o (loops_below whole n)) ≡ true
all_agree whole p q n None same is rest = rest
all_agree whole p q n (Some l) same is rest =
    ap (λ b. b && list_all (agrees p q) (loops_below whole n))
    (both_same (inside p l) (inside q l) (same n l is)) ∙ rest

below_agree : (whole : List Instr) (p q n : ℕ)
    → ((k : ℕ) (l : LoopSpan) → loop_at whole k ≡ Some l → inside p l ≡ inside q l)
    → list_all (agrees p q) (loops_below whole n) ≡ true
below_agree whole p q zero same = refl
below_agree whole p q (suc n) same = all_agree whole p q n (loop_at whole n) same refl (below_agree whole p q n same)

pub jump_stays : (whole : List Instr) (p q : ℕ) → p < q → Outer whole p q → Closed whole p q → stays whole p q ≡ true
jump_stays whole p q later outer closed =
    below_agree whole p q (length whole) (λ k l is. agree whole p q k l later outer closed is)

-- ---- stretches
pub closed_both : (whole : List Instr) (p q r : ℕ) → q ≤ r → Closed whole p q → Closed whole q r → Closed whole p r
closed_both whole p q r le a b = record {
  each = λ k l is from before.
      ⊎_elim (λ (early : k < q). let e = a.each k l is from early in omega arith)
      (λ (later : q ≤ k). b.each k l is later before) (cases_lt k q);
}

-- an instruction that starts no loop
abbrev pub starts_none : Instr → Bool
starts_none (code.LoopStart slot low high exit) = false
starts_none other = true

pub not_loop : (whole : List Instr) (p : ℕ) (i : Instr) → starts_none i ≡ true → loop_from whole p (Some i) ≡ None
not_loop whole p (code.LoopStart slot low high exit) none = absurd (both_ways false refl none)
not_loop whole p other none = refl

pub one_closed : (whole : List Instr) (p q : ℕ) (i : Instr) → slice_get whole p ≡ Some i → starts_none i ≡ true
    → q ≡ p + 1 → Closed whole p q
one_closed whole p q i is none e = record {
  each = λ k l opens from before.
      let same : k ≡ p = omega arith in
      let clash : ◌≡◌ {A = Option LoopSpan} None (Some l) = sym (not_loop whole p i none)
      ∙ sym (ap (loop_from whole p) is)
      ∙ sym (ap (loop_at whole) same) ∙ opens in
      absurd cc;
}

pub none_closed : (whole : List Instr) (p q : ℕ) → q ≤ p → Closed whole p q
none_closed whole p q le = record { each = λ k l is from before. absurd (omega arith) }

-- code without loops
abbrev pub loopless : List Instr → Bool
loopless [] = true
loopless (i ∷ is) = starts_none i && loopless is

loopless_closed : (whole : List Instr) (p q : ℕ) (c : List Instr) → loopless c ≡ true → HasAt whole p c
    → q ≡ p + length c → Closed whole p q
loopless_closed whole p q [] none has e = none_closed whole p q (omega arith)
loopless_closed whole p q (i ∷ is) none has e =
    let both = and_parts (starts_none i) (loopless is) none in
    closed_both whole p (p + 1) q (omega arith) (one_closed whole p (p + 1) i has.0 both.0 refl)
    (loopless_closed whole (p + 1) q is both.1 has.1 (omega arith))

loopless-append : (a b : List Instr) → loopless a ≡ true → loopless b ≡ true → loopless (a ++ b) ≡ true
loopless-append [] b x y = y
loopless-append (i ∷ a) b x y =
    let both = and_parts (starts_none i) (loopless a) x in
    ap (λ z. z && loopless (a ++ b)) both.0 ∙ loopless-append a b both.1 y

operand-loopless : (o : Op) (n p : ℕ) (right : ℕ → List Instr) → ((q : ℕ) → loopless (right q) ≡ true)
    → loopless (operand_code o n right p) ≡ true
operand-loopless op.AndThen n p right none =
    loopless-append (right (p + 1)) (code.Jump (p + n + 3) ∷ code.Push (pos 0) ∷ []) (none (p + 1)) refl
operand-loopless op.OrElse n p right none = none (p + 3)
operand-loopless op.Add n p right none = loopless-append (right p) (code.Add ∷ []) (none p) refl
operand-loopless op.Sub n p right none = loopless-append (right p) (code.Sub ∷ []) (none p) refl
operand-loopless op.Mul n p right none = loopless-append (right p) (code.Mul ∷ []) (none p) refl
operand-loopless op.Quot n p right none = loopless-append (right p) (code.Quot ∷ []) (none p) refl
operand-loopless op.Mod n p right none = loopless-append (right p) (code.Mod ∷ []) (none p) refl
operand-loopless op.Rem n p right none = loopless-append (right p) (code.Rem ∷ []) (none p) refl
operand-loopless op.Eq n p right none = loopless-append (right p) (code.Eq ∷ []) (none p) refl
operand-loopless op.Ne n p right none = loopless-append (right p) (code.Ne ∷ []) (none p) refl
operand-loopless op.Lt n p right none = loopless-append (right p) (code.Lt ∷ []) (none p) refl
operand-loopless op.Le n p right none = loopless-append (right p) (code.Le ∷ []) (none p) refl
operand-loopless op.Gt n p right none = loopless-append (right p) (code.Gt ∷ []) (none p) refl
operand-loopless op.Ge n p right none = loopless-append (right p) (code.Ge ∷ []) (none p) refl
operand-loopless op.And n p right none = loopless-append (right p) (code.And ∷ []) (none p) refl
operand-loopless op.Or n p right none = loopless-append (right p) (code.Or ∷ []) (none p) refl
operand-loopless op.Xor n p right none = loopless-append (right p) (code.Xor ∷ []) (none p) refl

mutual
  pub expr-loopless : (e : Expression) (p : ℕ) → loopless (code_of e p) ≡ true
  expr-loopless (Literal n) p = refl
  expr-loopless (Variable x) p = refl
  expr-loopless (PortRead q) p = refl
  expr-loopless (Fresh q) p = refl
  expr-loopless (Neg e) p = loopless-append (code_of e p) (code.Neg ∷ []) (expr-loopless e p) refl
  expr-loopless (Abs e) p = loopless-append (code_of e p) (code.Abs ∷ []) (expr-loopless e p) refl
  expr-loopless (Not e) p = loopless-append (code_of e p) (code.Not ∷ []) (expr-loopless e p) refl
  expr-loopless (Chain first rest) p =
      loopless-append (code_of first p) (code_rest rest (p + length_of first)) (expr-loopless first p)
      (rest-loopless rest (p + length_of first))

  rest-loopless : (os : Operands) (p : ℕ) → loopless (code_rest os p) ≡ true
  rest-loopless NoMore p = refl
  rest-loopless (Then o e rest) p =
      loopless-append (operand_code o (length_of e) (code_of e) p) (code_rest rest (p + operand_length o (length_of e)))
      (operand-loopless o (length_of e) p (code_of e) (expr-loopless e))
      (rest-loopless rest (p + operand_length o (length_of e)))

pub expr_closed : (whole : List Instr) (e : Expression) (p q : ℕ) → HasAt whole p (code_of e p) → q ≡ p + length_of e
    → Closed whole p q
expr_closed whole e p q has is = let l = code-length e p in
    loopless_closed whole p q (code_of e p) (expr-loopless e p) has (omega arith)

-- a loop ends where its code does
loop_closed : (whole : List Instr) (n p m q : ℕ) (low high : ℤ)
    → slice_get whole p ≡ Some (code.LoopStart n low high (p + m + 2))
    → slice_get whole (p + 1 + m) ≡ Some (code.LoopNext n high (p + 1)) → q ≡ p + (m + 2)
    → Closed whole (p + 1) (p + 1 + m) → Closed whole p q
loop_closed whole n p m q low high start next is body = record {
  each = λ k l opens from before.
      ⊎_elim
      (λ (first : k < p + 1).
      let same : k ≡ p = omega arith in
      let at : Some (code.LoopStart n low high (p + m + 2)) ≡ Some (code.LoopStart l.slot l.low l.high l.exit) =
      sym start ∙ sym (ap (slice_get whole) same) ∙ (loop_is whole k l opens).opens in
      let exit : p + m + 2 ≡ l.exit = cc in
      omega arith)
      (λ (later : p + 1 ≤ k).
      ⊎_elim
      (λ (within : k < p + 1 + m). let e = body.each k l opens later within in omega arith)
      (λ (end : p + 1 + m ≤ k). let e =
      (one_closed whole (p + 1 + m) (p + 1 + m + 1) (code.LoopNext n high (p + 1)) next refl refl).each k l opens
      end (omega arith) in omega arith)
      (cases_lt k (p + 1 + m)))
      (cases_lt k (p + 1));
}

mutual
  pub act_closed : (whole : List Instr) (a : Action) (n p q : ℕ) → HasAt whole p (code_act a n p) → q ≡ p + length_act a
      → Closed whole p q
  act_closed whole (Assign x e) n p q has is =
      let r = p + length_of e in
      let here = (has_back whole p (length_of e) r (code_of e p) (code.Store x ∷ []) (code-length e p) refl has).0 in
      closed_both whole p r q (omega arith) (expr_closed whole e p r (has_front whole p (code_of e p) _ has) refl)
      (one_closed whole r q (code.Store x) here refl (omega arith))
  act_closed whole (Emit x e) n p q has is =
      let r = p + length_of e in
      let here = (has_back whole p (length_of e) r (code_of e p) (code.Emit x ∷ []) (code-length e p) refl has).0 in
      closed_both whole p r q (omega arith) (expr_closed whole e p r (has_front whole p (code_of e p) _ has) refl)
      (one_closed whole r q (code.Emit x) here refl (omega arith))
  act_closed whole (If branches otherwise) n p q has is =
      let r = p + length_branches branches in
      let end = r + length_acts otherwise in
      let c = code_branches branches n end p in
      closed_both whole p r q (omega arith) (branches_closed whole branches n end p r (has_front whole p c _ has) refl)
      (acts_closed whole otherwise n r q
      (has_back whole p (length_branches branches) r c (code_acts otherwise n r) (branches-length branches n end p)
      refl has) (omega arith))
  act_closed whole (For low high body) n p q has is =
      let m = length_acts body in
      let next =
      (has_back whole (p + 1) m (p + 1 + m) (code_acts body (n + 1) (p + 1)) (code.LoopNext n high (p + 1) ∷ [])
      (acts-length body (n + 1) (p + 1)) refl has.1).0 in
      loop_closed whole n p m q low high has.0 next is
      (acts_closed whole body (n + 1) (p + 1) (p + 1 + m)
      (has_front whole (p + 1) (code_acts body (n + 1) (p + 1)) _ has.1) refl)

  pub acts_closed : (whole : List Instr) (as' : Actions) (n p q : ℕ) → HasAt whole p (code_acts as' n p)
      → q ≡ p + length_acts as' → Closed whole p q
  acts_closed whole Nothing n p q has is = none_closed whole p q (omega arith)
  acts_closed whole (Do a rest) n p q has is =
      let r = p + length_act a in
      closed_both whole p r q (omega arith) (act_closed whole a n p r (has_front whole p (code_act a n p) _ has) refl)
      (acts_closed whole rest n r q
      (has_back whole p (length_act a) r (code_act a n p) (code_acts rest n r) (act-length a n p) refl has)
      (omega arith))

  pub branches_closed : (whole : List Instr) (bs : Branches) (n end p q : ℕ) → HasAt whole p (code_branches bs n end p)
      → q ≡ p + length_branches bs → Closed whole p q
  branches_closed whole NoBranch n end p q has is = none_closed whole p q (omega arith)
  branches_closed whole (Where guard actions rest) n end p q has is =
      let g = length_of guard in
      let m = length_acts actions in
      let r = p + g in
      let no' = p + g + m + 2 in
      let body = code_acts actions n (r + 1) in
      let tail = code.Jump end ∷ code_branches rest n end no' in
      let back =
      has_back whole p g r (code_of guard p) (code.JumpZero no' ∷ (body ++ tail)) (code-length guard p) refl has in
      let later = has_back whole (r + 1) m (r + 1 + m) body tail (acts-length actions n (r + 1)) refl back.1 in
      let place : r + 1 + m + 1 ≡ no' = omega arith in
      closed_both whole p r q (omega arith)
      (expr_closed whole guard p r (has_front whole p (code_of guard p) _ has) refl)
      (closed_both whole r (r + 1) q (omega arith) (one_closed whole r (r + 1) (code.JumpZero no') back.0 refl refl)
      (closed_both whole (r + 1) (r + 1 + m) q (omega arith)
      (acts_closed whole actions n (r + 1) (r + 1 + m) (has_front whole (r + 1) body tail back.1) refl)
      (closed_both whole (r + 1 + m) no' q (omega arith)
      (one_closed whole (r + 1 + m) no' (code.Jump end) later.0 refl (omega arith))
      (branches_closed whole rest n end no' q (subst (λ k. HasAt whole k (code_branches rest n end no')) place later.1)
      (omega arith)))))
