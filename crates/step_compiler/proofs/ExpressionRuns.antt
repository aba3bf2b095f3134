-- The code of an expression pushes its value, or traps as it does.
use Rattle.std.proofs.Common.{◌≡◌, ◌∙◌, ℕ, suc, ◌+◌, ◌<◌, ℤ, pos, Bool, true, false, if◌then◌else◌, List, [], ◌∷◌, ◌++◌}
use Rattle.std.proofs.Common.{length, Some, refl, ap, subst, arith}
use Rattle.std.specs.Prelude.{not, slice_get, slice_index_or, Result, Ok, Err}
use Rattle.pals_base.specs.declared.basic_types.Trap.{Trap}
use Rattle.pals_base.specs.declared.frames.Frame.{Frame}
use Rattle.pals_base.specs.declared.basic_types.PortValue.{PortValue as Value}
use Rattle.pals_base.specs.declared.behaviour.Op.{Op}
use Rattle.pals_base.specs.declared.behaviour.Op.TheVariants as op
use Rattle.pals_base.specs.Arithmetic.{negation_of, magnitude_of}
use Rattle.pals_base.specs.ExpressionValues.{is_true, truth, applied, combined, on_value, eval, eval_rest}
use Rattle.pals_base.specs.ExpressionAndActionTrees.{Expression, Literal, Variable, PortRead, Fresh, Neg, Abs, Not}
use Rattle.pals_base.specs.ExpressionAndActionTrees.{Chain, Operands}
use Rattle.pals_base.specs.ExpressionAndActionTrees.{NoMore, Then}
use Rattle.step_code.specs.declared.instr.Instr.{Instr}
use Rattle.step_code.specs.declared.instr.Instr.TheVariants as code
use Rattle.step_code.specs.InstructionEffects.{Goes, Traps, StepInputs, on_found, on_result, on_two, step}
use Rattle.step_code.specs.proof.CodeRuns.{CodeOutcome, Trapped, then_run, run}
use Rattle.step_code.specs.CodeLengths.{operand_length, length_of, length_rest}
use Rattle.step_compiler.specs.ExpressionAndActionInstructions.{operator, operand_code, code_of, code_rest}
use Rattle.step_compiler.proofs.PlacedCodeLengths.{HasAt, has_front, has_back, code-length, operand-length}
use Rattle.step_compiler.proofs.BehaviourAccessBounds.{Sees, SeesAll}

-- ---- runs
pub record At : Type 0 where
  pub place : ℕ
  pub stack : List ℤ
  pub slots : List ℤ
  pub outs : List Value

abbrev pub at : ℕ → List ℤ → List ℤ → List Value → At
at p stack slots outs = record { place = p; stack = stack; slots = slots; outs = outs }

abbrev pub runs : List Instr → StepInputs → ℕ → At → CodeOutcome
runs whole s n a = run whole s n a.place a.stack a.slots a.outs

-- every result of b is a result of a
pub record Leads (whole : List Instr) (s : StepInputs) (a b : At) : Type 0 where
  pub by : (k : ℕ) → (j : ℕ) × (runs whole s j a ≡ runs whole s k b)

abbrev pub Traps' : List Instr → StepInputs → At → Trap → Type 0
Traps' whole s a trap = (j : ℕ) × (runs whole s j a ≡ Trapped trap)

-- from a the code comes to a place with the value on this stack, or traps
abbrev pub Gives : List Instr → StepInputs → At → ℕ → List ℤ → Result ℤ Trap → Type 0
Gives whole s a q stack (Ok v) = Leads whole s a (at q (v ∷ stack) a.slots a.outs)
Gives whole s a q stack (Err trap) = Traps' whole s a trap

-- what the step sees of a frame
pub record Shows (s : StepInputs) (slots : List ℤ) (frame : Frame) (fresh : List Bool) : Type 0 where
  pub vars : (x : ℕ) → x < length frame.vars → slice_get slots x ≡ Some (slice_index_or frame.vars x (pos 0))
  pub held : (x : ℕ) → x < length frame.held → slice_get s.held x ≡ Some (slice_index_or frame.held x (pos 0))
  pub fresh' : (x : ℕ) → x < length frame.held → slice_get s.fresh x ≡ Some (slice_index_or fresh x false)

module _ (whole : List Instr) (s : StepInputs) where
  pub stays : (a : At) → Leads whole s a a
  stays a = record { by = λ k. (k, refl) }

  pub leads_on : (a b c : At) → Leads whole s a b → Leads whole s b c → Leads whole s a c
  leads_on a b c l m = record { by = λ k. let y = m.by k in let x = l.by y.0 in (x.0, x.1 ∙ y.1) }

  pub leads_trap : (a b : At) (trap : Trap) → Leads whole s a b → Traps' whole s b trap → Traps' whole s a trap
  leads_trap a b trap l t = let x = l.by t.0 in (x.0, x.1 ∙ t.1)

  pub goes : (a b : At) (i : Instr) → slice_get whole a.place ≡ Some i
      → step (Some i) s a.place a.stack a.slots a.outs ≡ Goes b.place b.stack b.slots b.outs → Leads whole s a b
  goes a b i is e =
      record {
        by = λ k. (
          suc k,
          ap (λ o. then_run (step o s a.place a.stack a.slots a.outs) (run whole s k)) is
              ∙ ap (λ n. then_run n (run whole s k)) e,
        );
      }

  pub traps : (a : At) (i : Instr) (trap : Trap) → slice_get whole a.place ≡ Some i
      → step (Some i) s a.place a.stack a.slots a.outs ≡ Traps trap → Traps' whole s a trap
  traps a i trap is e = (
    suc 0,
    ap (λ o. then_run (step o s a.place a.stack a.slots a.outs) (run whole s 0)) is
        ∙ ap (λ n. then_run n (run whole s 0)) e,
  )

  -- a result follows from the run that leads to it
  pub after : (a b : At) (q : ℕ) (stack : List ℤ) (r : Result ℤ Trap) → b.slots ≡ a.slots → b.outs ≡ a.outs
      → Leads whole s a b → Gives whole s b q stack r → Gives whole s a q stack r
  after a b q stack (Ok v) es eo l g =
      leads_on a b (at q (v ∷ stack) a.slots a.outs) l
      (subst (λ x. Leads whole s b (at q (v ∷ stack) x a.outs)) es
      (subst (λ x. Leads whole s b (at q (v ∷ stack) b.slots x)) eo g))
  after a b q stack (Err trap) es eo l g = leads_trap a b trap l g

  pub then_gives : (a : At) (p q : ℕ) (stack : List ℤ) (r : Result ℤ Trap) (go : ℤ → Result ℤ Trap)
      → Gives whole s a p stack r
      → ((v : ℤ) → Gives whole s (at p (v ∷ stack) a.slots a.outs) q stack (go v))
      → Gives whole s a q stack (on_value r go)
  then_gives a p q stack (Err trap) go g h = g
  then_gives a p q stack (Ok v) go g h = after a (at p (v ∷ stack) a.slots a.outs) q stack (go v) refl refl g (h v)

  -- an instruction that turns the topmost number into a result
  on_one : (a : At) (i : Instr) (r : Result ℤ Trap) (stack : List ℤ) → slice_get whole a.place ≡ Some i
      → step (Some i) s a.place a.stack a.slots a.outs
      ≡ on_result r (λ v. Goes (a.place + 1) (v ∷ stack) a.slots a.outs) → Gives whole s a (a.place + 1) stack r
  on_one a i (Ok v) stack is e = goes a (at (a.place + 1) (v ∷ stack) a.slots a.outs) i is e
  on_one a i (Err trap) stack is e = traps a i trap is e

  pub ends_at : (a : At) (p q : ℕ) (stack : List ℤ) (r : Result ℤ Trap) → p ≡ q → Gives whole s a p stack r
      → Gives whole s a q stack r
  ends_at a p q stack r e g = subst (λ x. Gives whole s a x stack r) e g

  -- the right side's code, at any place
  abbrev Right : List ℤ → List Value → (ℕ → List Instr) → ℕ → Result ℤ Trap → Type 0
  Right slots outs right n r =
      (p : ℕ) (stack : List ℤ) → HasAt whole p (right p) → Gives whole s (at p stack slots outs) (p + n) stack r

  both_after : (o : Op) (n p : ℕ) (left : ℤ) (stack slots : List ℤ) (outs : List Value) (r : Result ℤ Trap)
      → ((q : ℕ) (st : List ℤ) → step (Some (operator o)) s q st slots outs ≡ on_two o q st slots outs)
      → slice_get whole (p + n) ≡ Some (operator o)
      → Gives whole s (at p (left ∷ stack) slots outs) (p + n) (left ∷ stack) r
      → Gives whole s (at p (left ∷ stack) slots outs) (p + (n + 1)) stack (on_value r (λ b. applied o left b))
  both_after o n p left stack slots outs (Err trap) same here g = g
  both_after o n p left stack slots outs (Ok b) same here g =
      let end : p + n + 1 ≡ p + (n + 1) = omega arith in
      let mid = at (p + n) (b ∷ left ∷ stack) slots outs in
      after (at p (left ∷ stack) slots outs) mid (p + (n + 1)) stack (applied o left b) refl refl g
      (ends_at mid (p + n + 1) (p + (n + 1)) stack (applied o left b) end
      (on_one mid (operator o) (applied o left b) stack here (same (p + n) (b ∷ left ∷ stack))))

  -- the jump that a left value decides
  pub jumps : (p to : ℕ) (v : ℤ) (stack slots : List ℤ) (outs : List Value)
      → slice_get whole p ≡ Some (code.JumpZero to) → is_true v ≡ false
      → Leads whole s (at p (v ∷ stack) slots outs) (at to stack slots outs)
  jumps p to v stack slots outs is e =
      goes (at p (v ∷ stack) slots outs) (at to stack slots outs) (code.JumpZero to) is
      (ap (λ b. if b then Goes (p + 1) stack slots outs else Goes to stack slots outs) e)

  pub passes : (p to : ℕ) (v : ℤ) (stack slots : List ℤ) (outs : List Value)
      → slice_get whole p ≡ Some (code.JumpZero to) → is_true v ≡ true
      → Leads whole s (at p (v ∷ stack) slots outs) (at (p + 1) stack slots outs)
  passes p to v stack slots outs is e =
      goes (at p (v ∷ stack) slots outs) (at (p + 1) stack slots outs) (code.JumpZero to) is
      (ap (λ b. if b then Goes (p + 1) stack slots outs else Goes to stack slots outs) e)

  -- a value, and a jump
  jump_on : (a : At) (p q : ℕ) (stack : List ℤ) (r : Result ℤ Trap) → slice_get whole p ≡ Some (code.Jump q)
      → Gives whole s a p stack r → Gives whole s a q stack r
  jump_on a p q stack (Ok v) is g =
      leads_on a (at p (v ∷ stack) a.slots a.outs) (at q (v ∷ stack) a.slots a.outs) g
      (goes (at p (v ∷ stack) a.slots a.outs) (at q (v ∷ stack) a.slots a.outs) (code.Jump q) is refl)
  jump_on a p q stack (Err trap) is g = g

  and_by : (b : Bool) (n p : ℕ) (left : ℤ) (stack slots : List ℤ) (outs : List Value) (right : ℕ → List Instr)
      (r : Result ℤ Trap) → is_true left ≡ b
      → ((q : ℕ) → length (right q) ≡ n) → HasAt whole p (operand_code op.AndThen n right p)
      → Right slots outs right n r
      → Gives whole s (at p (left ∷ stack) slots outs) (p + (n + 3)) stack (if b then r else Ok (pos 0))
  and_by true n p left stack slots outs right r is len has runs' =
      let a = at p (left ∷ stack) slots outs in
      let b = at (p + 1) stack slots outs in
      let tail =
      has_back whole (p + 1) n (p + 1 + n) (right (p + 1)) (code.Jump (p + n + 3) ∷ code.Push (pos 0) ∷ [])
      (len (p + 1)) refl has.1 in
      let end : p + n + 3 ≡ p + (n + 3) = omega arith in
      ends_at a (p + n + 3) (p + (n + 3)) stack r end
      (after a b (p + n + 3) stack r refl refl (passes p (p + n + 2) left stack slots outs has.0 is)
      (jump_on b (p + 1 + n) (p + n + 3) stack r tail.0
      (runs' (p + 1) stack (has_front whole (p + 1) (right (p + 1)) _ has.1))))
  and_by false n p left stack slots outs right r is len has runs' =
      let a = at p (left ∷ stack) slots outs in
      let b = at (p + n + 2) stack slots outs in
      let tail =
      has_back whole (p + 1) n (p + 1 + n) (right (p + 1)) (code.Jump (p + n + 3) ∷ code.Push (pos 0) ∷ [])
      (len (p + 1)) refl has.1 in
      let place : p + 1 + n + 1 ≡ p + n + 2 = omega arith in
      let here : slice_get whole (p + n + 2) ≡ Some (code.Push (pos 0)) =
      subst (λ k. slice_get whole k ≡ Some (code.Push (pos 0))) place tail.1.0 in
      let end : p + n + 2 + 1 ≡ p + (n + 3) = omega arith in
      ends_at a (p + n + 2 + 1) (p + (n + 3)) stack (Ok (pos 0)) end
      (leads_on a b (at (p + n + 2 + 1) (pos 0 ∷ stack) slots outs) (jumps p (p + n + 2) left stack slots outs has.0 is)
      (goes b (at (p + n + 2 + 1) (pos 0 ∷ stack) slots outs) (code.Push (pos 0)) here refl))

  and_runs : (n p : ℕ) (left : ℤ) (stack slots : List ℤ) (outs : List Value) (right : ℕ → List Instr)
      (r : Result ℤ Trap)
      → ((q : ℕ) → length (right q) ≡ n) → HasAt whole p (operand_code op.AndThen n right p)
      → Right slots outs right n r
      → Gives whole s (at p (left ∷ stack) slots outs) (p + (n + 3)) stack (if is_true left then r else Ok (pos 0))
  and_runs n p left stack slots outs right r len has runs' =
      and_by (is_true left) n p left stack slots outs right r refl len has runs'

  or_by : (b : Bool) (n p : ℕ) (left : ℤ) (stack slots : List ℤ) (outs : List Value) (right : ℕ → List Instr)
      (r : Result ℤ Trap) → is_true left ≡ b
      → ((q : ℕ) → length (right q) ≡ n) → HasAt whole p (operand_code op.OrElse n right p) → Right slots outs right n r
      → Gives whole s (at p (left ∷ stack) slots outs) (p + (n + 3)) stack (if b then Ok (pos 1) else r)
  or_by true n p left stack slots outs right r is len has runs' =
      let a = at p (left ∷ stack) slots outs in
      let b = at (p + 1) stack slots outs in
      let c = at (p + 1 + 1) (pos 1 ∷ stack) slots outs in
      let end : p + n + 3 ≡ p + (n + 3) = omega arith in
      ends_at a (p + n + 3) (p + (n + 3)) stack (Ok (pos 1)) end
      (jump_on a (p + 1 + 1) (p + n + 3) stack (Ok (pos 1)) has.1.1.0
      (leads_on a b c (passes p (p + 3) left stack slots outs has.0 is)
      (goes b c (code.Push (pos 1)) has.1.0 refl)))
  or_by false n p left stack slots outs right r is len has runs' =
      let a = at p (left ∷ stack) slots outs in
      let b = at (p + 3) stack slots outs in
      let place : p + 1 + 1 + 1 ≡ p + 3 = omega arith in
      let there : HasAt whole (p + 3) (right (p + 3)) = subst (λ k. HasAt whole k (right (p + 3))) place has.1.1.1 in
      let end : p + 3 + n ≡ p + (n + 3) = omega arith in
      after a b (p + (n + 3)) stack r refl refl (jumps p (p + 3) left stack slots outs has.0 is)
      (ends_at b (p + 3 + n) (p + (n + 3)) stack r end (runs' (p + 3) stack there))

  or_runs : (n p : ℕ) (left : ℤ) (stack slots : List ℤ) (outs : List Value) (right : ℕ → List Instr) (r : Result ℤ Trap)
      → ((q : ℕ) → length (right q) ≡ n) → HasAt whole p (operand_code op.OrElse n right p) → Right slots outs right n r
      → Gives whole s (at p (left ∷ stack) slots outs) (p + (n + 3)) stack (if is_true left then Ok (pos 1) else r)
  or_runs n p left stack slots outs right r len has runs' =
      or_by (is_true left) n p left stack slots outs right r refl len has runs'

  both_runs : (o : Op) (n p : ℕ) (left : ℤ) (stack slots : List ℤ) (outs : List Value) (right : ℕ → List Instr)
      (r : Result ℤ Trap)
      → ((q : ℕ) (st : List ℤ) → step (Some (operator o)) s q st slots outs ≡ on_two o q st slots outs)
      → ((q : ℕ) → length (right q) ≡ n) → HasAt whole p (right p ++ operator o ∷ []) → Right slots outs right n r
      → Gives whole s (at p (left ∷ stack) slots outs) (p + (n + 1)) stack (on_value r (λ b. applied o left b))
  both_runs o n p left stack slots outs right r same len has runs' =
      let end : p + n + 1 ≡ p + (n + 1) = omega arith in
      let here = (has_back whole p n (p + n) (right p) (operator o ∷ []) (len p) refl has).0 in
      both_after o n p left stack slots outs r same here
      (runs' p (left ∷ stack) (has_front whole p (right p) (operator o ∷ []) has))

  operand_runs : (o : Op) (n p : ℕ) (left : ℤ) (stack slots : List ℤ) (outs : List Value) (right : ℕ → List Instr)
      (r : Result ℤ Trap)
      → ((q : ℕ) → length (right q) ≡ n) → HasAt whole p (operand_code o n right p) → Right slots outs right n r
      → Gives whole s (at p (left ∷ stack) slots outs) (p + operand_length o n) stack (combined o left r)
  operand_runs op.AndThen n p left stack slots outs right r len has runs' =
      and_runs n p left stack slots outs right r len has runs'
  operand_runs op.OrElse n p left stack slots outs right r len has runs' =
      or_runs n p left stack slots outs right r len has runs'
  operand_runs op.Add n p left stack slots outs right r len has runs' =
      both_runs op.Add n p left stack slots outs right r (λ q st. refl) len has runs'
  operand_runs op.Sub n p left stack slots outs right r len has runs' =
      both_runs op.Sub n p left stack slots outs right r (λ q st. refl) len has runs'
  operand_runs op.Mul n p left stack slots outs right r len has runs' =
      both_runs op.Mul n p left stack slots outs right r (λ q st. refl) len has runs'
  operand_runs op.Quot n p left stack slots outs right r len has runs' =
      both_runs op.Quot n p left stack slots outs right r (λ q st. refl) len has runs'
  operand_runs op.Mod n p left stack slots outs right r len has runs' =
      both_runs op.Mod n p left stack slots outs right r (λ q st. refl) len has runs'
  operand_runs op.Rem n p left stack slots outs right r len has runs' =
      both_runs op.Rem n p left stack slots outs right r (λ q st. refl) len has runs'
  operand_runs op.Eq n p left stack slots outs right r len has runs' =
      both_runs op.Eq n p left stack slots outs right r (λ q st. refl) len has runs'
  operand_runs op.Ne n p left stack slots outs right r len has runs' =
      both_runs op.Ne n p left stack slots outs right r (λ q st. refl) len has runs'
  operand_runs op.Lt n p left stack slots outs right r len has runs' =
      both_runs op.Lt n p left stack slots outs right r (λ q st. refl) len has runs'
  operand_runs op.Le n p left stack slots outs right r len has runs' =
      both_runs op.Le n p left stack slots outs right r (λ q st. refl) len has runs'
  operand_runs op.Gt n p left stack slots outs right r len has runs' =
      both_runs op.Gt n p left stack slots outs right r (λ q st. refl) len has runs'
  operand_runs op.Ge n p left stack slots outs right r len has runs' =
      both_runs op.Ge n p left stack slots outs right r (λ q st. refl) len has runs'
  operand_runs op.And n p left stack slots outs right r len has runs' =
      both_runs op.And n p left stack slots outs right r (λ q st. refl) len has runs'
  operand_runs op.Or n p left stack slots outs right r len has runs' =
      both_runs op.Or n p left stack slots outs right r (λ q st. refl) len has runs'
  operand_runs op.Xor n p left stack slots outs right r len has runs' =
      both_runs op.Xor n p left stack slots outs right r (λ q st. refl) len has runs'

  -- a value, and an instruction that turns it into a result
  one_runs : (i : Instr) (n p : ℕ) (stack slots : List ℤ) (outs : List Value) (c : List Instr) (r : Result ℤ Trap)
      (f : ℤ → Result ℤ Trap)
      → ((q : ℕ) (v : ℤ) → step (Some i) s q (v ∷ stack) slots outs
      ≡ on_result (f v) (λ w. Goes (q + 1) (w ∷ stack) slots outs))
      → length c ≡ n → HasAt whole p (c ++ i ∷ []) → Gives whole s (at p stack slots outs) (p + n) stack r
      → Gives whole s (at p stack slots outs) (p + (n + 1)) stack (on_value r f)
  one_runs i n p stack slots outs c r f same len has g =
      let here = (has_back whole p n (p + n) c (i ∷ []) len refl has).0 in
      let end : p + n + 1 ≡ p + (n + 1) = omega arith in
      then_gives (at p stack slots outs) (p + n) (p + (n + 1)) stack r f g
      (λ v. let mid = at (p + n) (v ∷ stack) slots outs in
      ends_at mid (p + n + 1) (p + (n + 1)) stack (f v) end (on_one mid i (f v) stack here (same (p + n) v)))

  mutual
    pub expr_runs : (e : Expression) (frame : Frame) (fresh : List Bool) (p : ℕ) (stack slots : List ℤ)
        (outs : List Value) → Shows s slots frame fresh → Sees (length frame.vars) (length frame.held) e
        → HasAt whole p (code_of e p)
        → Gives whole s (at p stack slots outs) (p + length_of e) stack (eval e frame fresh)
    expr_runs (Literal n) frame fresh p stack slots outs shows sees has =
        goes (at p stack slots outs) (at (p + 1) (n ∷ stack) slots outs) (code.Push n) has.0 refl
    expr_runs (Variable x) frame fresh p stack slots outs shows sees has =
        goes (at p stack slots outs) (at (p + 1) (slice_index_or frame.vars x (pos 0) ∷ stack) slots outs) (code.Load x)
        has.0 (ap (λ o. on_found o (λ v. Goes (p + 1) (v ∷ stack) slots outs)) (shows.vars x sees))
    expr_runs (PortRead x) frame fresh p stack slots outs shows sees has =
        goes (at p stack slots outs) (at (p + 1) (slice_index_or frame.held x (pos 0) ∷ stack) slots outs) (code.Port x)
        has.0 (ap (λ o. on_found o (λ v. Goes (p + 1) (v ∷ stack) slots outs)) (shows.held x sees))
    expr_runs (Fresh x) frame fresh p stack slots outs shows sees has =
        goes (at p stack slots outs) (at (p + 1) (truth (slice_index_or fresh x false) ∷ stack) slots outs)
        (code.Fresh x) has.0 (ap (λ o. on_found o (λ b. Goes (p + 1) (truth b ∷ stack) slots outs))
        (shows.fresh' x sees))
    expr_runs (Neg e) frame fresh p stack slots outs shows sees has =
        one_runs code.Neg (length_of e) p stack slots outs (code_of e p) (eval e frame fresh) negation_of (λ q v. refl)
        (code-length e p) has (expr_runs e frame fresh p stack slots outs shows sees
        (has_front whole p (code_of e p) _ has))
    expr_runs (Abs e) frame fresh p stack slots outs shows sees has =
        one_runs code.Abs (length_of e) p stack slots outs (code_of e p) (eval e frame fresh) magnitude_of (λ q v. refl)
        (code-length e p) has (expr_runs e frame fresh p stack slots outs shows sees
        (has_front whole p (code_of e p) _ has))
    expr_runs (Not e) frame fresh p stack slots outs shows sees has =
        one_runs code.Not (length_of e) p stack slots outs (code_of e p) (eval e frame fresh)
        (λ v. Ok (truth (not (is_true v)))) (λ q v. refl) (code-length e p) has
        (expr_runs e frame fresh p stack slots outs shows sees (has_front whole p (code_of e p) _ has))
    expr_runs (Chain first rest) frame fresh p stack slots outs shows sees has =
        let a = at p stack slots outs in
        let q = p + length_of first in
        let end : q + length_rest rest ≡ p + (length_of first + length_rest rest) = omega arith in
        ends_at a (q + length_rest rest) (p + (length_of first + length_rest rest)) stack
        (eval (Chain first rest) frame fresh) end
        (then_gives a q (q + length_rest rest) stack (eval first frame fresh) (λ v. eval_rest rest frame fresh v)
        (expr_runs first frame fresh p stack slots outs shows sees.0 (has_front whole p (code_of first p) _ has))
        (λ v. rest_runs rest frame fresh q v stack slots outs shows sees.1
        (has_back whole p (length_of first) q (code_of first p) (code_rest rest q) (code-length first p) refl has)))

    pub rest_runs : (os : Operands) (frame : Frame) (fresh : List Bool) (p : ℕ) (left : ℤ) (stack slots : List ℤ)
        (outs : List Value) → Shows s slots frame fresh → SeesAll (length frame.vars) (length frame.held) os
        → HasAt whole p (code_rest os p)
        → Gives whole s (at p (left ∷ stack) slots outs) (p + length_rest os) stack (eval_rest os frame fresh left)
    rest_runs NoMore frame fresh p left stack slots outs shows sees has =
        let e : p ≡ p + 0 = omega arith in
        ends_at (at p (left ∷ stack) slots outs) p (p + 0) stack (Ok left) e (stays (at p (left ∷ stack) slots outs))
    rest_runs (Then o e rest) frame fresh p left stack slots outs shows sees has =
        let a = at p (left ∷ stack) slots outs in
        let n = length_of e in
        let q = p + operand_length o n in
        let c = operand_code o n (code_of e) p in
        let end : q + length_rest rest ≡ p + (operand_length o n + length_rest rest) = omega arith in
        ends_at a (q + length_rest rest) (p + (operand_length o n + length_rest rest)) stack
        (eval_rest (Then o e rest) frame fresh left) end
        (then_gives a q (q + length_rest rest) stack (combined o left (eval e frame fresh))
        (λ v. eval_rest rest frame fresh v)
        (operand_runs o n p left stack slots outs (code_of e) (eval e frame fresh) (code-length e)
        (has_front whole p c _ has) (λ k st there. expr_runs e frame fresh k st slots outs shows sees.0 there))
        (λ v. rest_runs rest frame fresh q v stack slots outs shows sees.1
        (has_back whole p (operand_length o n) q c (code_rest rest q)
        (operand-length o n p (code_of e) (code-length e)) refl has)))
