-- The code of actions has their effect, or traps as they do.
use Rattle.std.proofs.Common.{◌≡◌, ◌∙◌, ℕ, suc, ◌+◌, ◌<◌, ℤ, ◌-ℤ◌, Bool, true, false, if◌then◌else◌, List, [], ◌∷◌}
use Rattle.std.proofs.Common.{◌++◌, length, Some, refl, sym, ap, subst, arith}
use Rattle.std.specs.Prelude.{slice_get, slice_set, int_lt, Result, Ok, Err}
use Rattle.std.proofs.lemmas.Int.{ints}
use Rattle.std.proofs.lemmas.List.{length-set}
use Rattle.std.proofs.lemmas.Option.{slice_get-get_or}
use Rattle.pals_base.specs.declared.basic_types.Trap.{Trap}
use Rattle.pals_base.specs.declared.frames.Frame.{Frame}
use Rattle.pals_base.specs.declared.basic_types.PortValue.{PortValue as Value}
use Rattle.pals_base.specs.declared.basic_types.PortValue.TheVariants.{Present}
use Rattle.pals_base.specs.ExpressionValues.{is_true, eval}
use Rattle.pals_base.specs.Actions.{Effect, for_each, with_vars, act, acts, act_first}
use Rattle.pals_base.specs.ForRanges.{counted_from, count_of, numbers}
use Rattle.pals_base.proofs.ForRanges.{no_numbers}
use Rattle.pals_base.specs.ExpressionAndActionTrees.{Expression, Action, Assign, Emit, If, For, Actions, Nothing, Do}
use Rattle.pals_base.specs.ExpressionAndActionTrees.{Branches}
use Rattle.pals_base.specs.ExpressionAndActionTrees.{NoBranch, Where}
use Rattle.step_code.specs.declared.instr.Instr.{Instr}
use Rattle.step_code.specs.declared.instr.Instr.TheVariants as code
use Rattle.step_code.specs.InstructionEffects.{Goes, StepInputs, on_found, step}
use Rattle.step_code.specs.CodeLengths.{length_of, length_act, length_acts, length_branches}
use Rattle.step_compiler.specs.ExpressionAndActionInstructions.{code_of, code_act, code_acts, code_branches}
use Rattle.step_compiler.proofs.PlacedCodeLengths.{HasAt, has_front, has_back, code-length, act-length, acts-length}
use Rattle.step_compiler.proofs.PlacedCodeLengths.{branches-length}
use Rattle.step_compiler.proofs.BehaviourAccessBounds.{Sees, Sizes, SeesAct, SeesActs, SeesBranches}
use Rattle.step_code.proofs.RunsWithinWeight.{spans}
use Rattle.step_code.proofs.ListMembers.{get_set_other, get_set_same}
use Rattle.step_compiler.proofs.ExpressionRuns.{At, at, Gives, stays, leads_on, goes, jumps, passes, expr_runs}
use Rattle.step_compiler.proofs.ActionAndLoopEffects.{Fits, Arrives, Comes, come_after, comes_at, then_comes}
use Rattle.step_compiler.proofs.ActionAndLoopEffects.{with_value, next_fits, assigned, sent, loop_fits, turn, Bodies}
use Rattle.step_compiler.proofs.ActionAndLoopEffects.{turns_run}

module _ (whole : List Instr) (s : StepInputs) (z : Sizes) where
  loop_runs : (body : Actions) (b : Bool) (n p : ℕ) (low high : ℤ) (stack slots : List ℤ) (outs : List Value)
      (frame : Frame) (fresh : List Bool) → int_lt high low ≡ b → Fits s z n slots outs frame fresh
      → n < z.slots → slice_get whole p ≡ Some (code.LoopStart n low high (p + length_acts body + 2))
      → slice_get whole (p + 1 + length_acts body) ≡ Some (code.LoopNext n high (p + 1))
      → Bodies whole s z body n (p + 1) stack frame fresh
      → Comes whole s (at p stack slots outs) (p + (length_acts body + 2)) stack z n frame.vars
      (for_each (numbers low high) (turn whole s z body frame fresh) (record { vars = frame.vars; outs = outs }))
  loop_runs body true n p low high stack slots outs frame fresh is f within start next bodies =
      let a = at p stack slots outs in
      let exit = p + length_acts body + 2 in
      let e : exit ≡ p + (length_acts body + 2) = omega arith in
      let go : step (Some (code.LoopStart n low high exit)) s p stack slots outs ≡ Goes exit stack slots outs =
      ap (λ b. if b then Goes exit stack slots outs else on_found (slice_get slots n)
      (λ before. Goes (p + 1) stack (slice_set slots n low) outs)) is in
      let none : numbers low high ≡ [] = no_numbers low high (grind (arith, ints)) in
      let size = f.size in
      let arrived : Arrives whole s a exit stack z n frame.vars (record { vars = frame.vars; outs = outs }) = record {
        slots' = slots;
        leads = goes whole s a (at exit stack slots outs) (code.LoopStart n low high exit) start go;
        shows = λ x lt. f.shows.vars x (omega arith);
        size = f.size;
        kept = λ x far. refl;
        total = f.total;
        ports = f.ports;
      } in
      comes_at whole s z a exit (p + (length_acts body + 2)) n stack frame.vars _ e
      (subst (λ ns. Comes whole s a exit stack z n frame.vars
      (for_each ns (turn whole s z body frame fresh) (record { vars = frame.vars; outs = outs }))) (sym none) arrived)
  loop_runs body false n p low high stack slots outs frame fresh is f within start next bodies =
      let a = at p stack slots outs in
      let exit = p + length_acts body + 2 in
      let slots1 = slice_set slots n low in
      let b = at (p + 1) stack slots1 outs in
      let size = f.size in
      let total = f.total in
      let found = slice_get-get_or slots n low (omega arith) in
      let go : step (Some (code.LoopStart n low high exit)) s p stack slots outs ≡ Goes (p + 1) stack slots1 outs =
      ap (λ b. if b then Goes exit stack slots outs else on_found (slice_get slots n)
      (λ before. Goes (p + 1) stack slots1 outs)) is
      ∙ ap (λ o. on_found o (λ before. Goes (p + 1) stack slots1 outs)) found in
      let sp = spans low high is in
      let count : count_of (high -ℤ low) ≡ suc sp.0 = omega (arith, sp.2) in
      let fits =
      loop_fits whole s z n slots1 frame.vars outs low frame fresh slots outs f f.size
      (λ x lt. get_set_other slots n x low (λ same. absurd (omega arith)) ∙ f.shows.vars x (omega arith))
      (get_set_same slots n low _ found) (length-set slots n low ∙ f.total) f.ports in
      let ran =
      turns_run whole s z body sp.0 n (p + 1) high low stack frame.vars slots1 outs frame fresh slots outs f
      next bodies sp.1
      f.size fits in
      let e : p + 1 + length_acts body + 1 ≡ p + (length_acts body + 2) = omega arith in
      let meant =
      for_each (numbers low high) (turn whole s z body frame fresh) (record { vars = frame.vars; outs = outs }) in
      come_after whole s z a b (p + (length_acts body + 2)) n stack frame.vars meant
      (goes whole s a b (code.LoopStart n low high exit) start go)
      (comes_at whole s z b (p + 1 + length_acts body + 1) (p + (length_acts body + 2)) n stack frame.vars meant e
      (subst (λ k. Comes whole s b (p + 1 + length_acts body + 1) stack z n frame.vars
      (for_each (counted_from low k) (turn whole s z body frame fresh) (record { vars = frame.vars; outs = outs })))
      (sym count) ran))

  -- ---- branches
  jump_after : (a : At) (p q n : ℕ) (stack before : List ℤ) (r : Result Effect Trap)
      → slice_get whole p ≡ Some (code.Jump q) → Comes whole s a p stack z n before r
      → Comes whole s a q stack z n before r
  jump_after a p q n stack before (Ok e) is c = record {
    slots' = c.slots';
    leads =
        leads_on whole s a (at p stack c.slots' e.outs) (at q stack c.slots' e.outs) c.leads
        (goes whole s (at p stack c.slots' e.outs) (at q stack c.slots' e.outs) (code.Jump q) is refl);
    shows = c.shows;
    size = c.size;
    kept = c.kept;
    total = c.total;
    ports = c.ports;
  }
  jump_after a p q n stack before (Err trap) is c = c

  choice : (b : Bool) (p to q n : ℕ) (v : ℤ) (stack slots before : List ℤ) (outs : List Value)
      (x y : Result Effect Trap) → is_true v ≡ b → slice_get whole p ≡ Some (code.JumpZero to)
      → Comes whole s (at (p + 1) stack slots outs) q stack z n before x
      → Comes whole s (at to stack slots outs) q stack z n before y
      → Comes whole s (at p (v ∷ stack) slots outs) q stack z n before (if b then x else y)
  choice true p to q n v stack slots before outs x y is here cx cy =
      come_after whole s z (at p (v ∷ stack) slots outs) (at (p + 1) stack slots outs) q n stack before x
      (passes whole s p to v stack slots outs here is) cx
  choice false p to q n v stack slots before outs x y is here cx cy =
      come_after whole s z (at p (v ∷ stack) slots outs) (at to stack slots outs) q n stack before y
      (jumps whole s p to v stack slots outs here is) cy

  pub value_runs : (e : Expression) (n p : ℕ) (stack slots : List ℤ) (outs : List Value) (frame : Frame)
      (fresh : List Bool) → Fits s z n slots outs frame fresh → Sees n z.ins e → HasAt whole p (code_of e p)
      → Gives whole s (at p stack slots outs) (p + length_of e) stack (eval e frame fresh)
  value_runs e n p stack slots outs frame fresh f sees has =
      expr_runs whole s e frame fresh p stack slots outs f.shows
      (subst (λ k. Sees k (length frame.held) e) (sym f.size) (subst (λ m. Sees n m e) (sym f.held) sees)) has

  mutual
    pub act_runs : (a : Action) (n p : ℕ) (stack slots : List ℤ) (outs : List Value) (frame : Frame) (fresh : List Bool)
        → Fits s z n slots outs frame fresh → SeesAct z n a → HasAt whole p (code_act a n p)
        → Comes whole s (at p stack slots outs) (p + length_act a) stack z n frame.vars (act a frame fresh outs)
    act_runs (Assign x e) n p stack slots outs frame fresh f sees has =
        let q = p + length_of e in
        let here = (has_back whole p (length_of e) q (code_of e p) (code.Store x ∷ []) (code-length e p) refl has).0 in
        let end : q + 1 ≡ p + (length_of e + 1) = omega arith in
        comes_at whole s z (at p stack slots outs) (q + 1) (p + (length_of e + 1)) n stack frame.vars _ end
        (with_value whole s z (at p stack slots outs) q (q + 1) n stack frame.vars (eval e frame fresh)
        (λ v. Ok (record { vars = slice_set frame.vars x v; outs = outs }))
        (value_runs e n p stack slots outs frame fresh f sees.1 (has_front whole p (code_of e p) _ has))
        (λ v. assigned whole s z n q x v stack slots outs frame fresh f sees.0 here))
    act_runs (Emit x e) n p stack slots outs frame fresh f sees has =
        let q = p + length_of e in
        let here = (has_back whole p (length_of e) q (code_of e p) (code.Emit x ∷ []) (code-length e p) refl has).0 in
        let end : q + 1 ≡ p + (length_of e + 1) = omega arith in
        comes_at whole s z (at p stack slots outs) (q + 1) (p + (length_of e + 1)) n stack frame.vars _ end
        (with_value whole s z (at p stack slots outs) q (q + 1) n stack frame.vars (eval e frame fresh)
        (λ v. Ok (record { vars = frame.vars; outs = slice_set outs x (Present v) }))
        (value_runs e n p stack slots outs frame fresh f sees.1 (has_front whole p (code_of e p) _ has))
        (λ v. sent whole s z n q x v stack slots outs frame fresh f sees.0 here))
    act_runs (If branches otherwise) n p stack slots outs frame fresh f sees has =
        let q = p + length_branches branches in
        let end = q + length_acts otherwise in
        let e : end ≡ p + (length_branches branches + length_acts otherwise) = omega arith in
        let c = code_branches branches n end p in
        let others =
        acts_run otherwise n q stack slots outs frame fresh f sees.1
        (has_back whole p (length_branches branches) q c (code_acts otherwise n q)
        (branches-length branches n end p) refl has) in
        comes_at whole s z (at p stack slots outs) end (p + (length_branches branches + length_acts otherwise)) n stack
        frame.vars _ e
        (branches_run branches n p end stack slots outs frame fresh (acts otherwise frame fresh outs) f sees.0
        (has_front whole p c _ has) others)
    act_runs (For low high body) n p stack slots outs frame fresh f sees has =
        let next =
        (has_back whole (p + 1) (length_acts body) (p + 1 + length_acts body) (code_acts body (n + 1) (p + 1))
        (code.LoopNext n high (p + 1) ∷ []) (acts-length body (n + 1) (p + 1)) refl has.1).0 in
        loop_runs body (int_lt high low) n p low high stack slots outs frame fresh refl f sees.0 has.0 next
        (λ v slots1 vars outs1 fits.
        acts_run body (n + 1) (p + 1) stack slots1 outs1 (with_vars frame (vars ++ v ∷ [])) fresh fits sees.1
        (has_front whole (p + 1) (code_acts body (n + 1) (p + 1)) _ has.1))

    pub acts_run : (as' : Actions) (n p : ℕ) (stack slots : List ℤ) (outs : List Value) (frame : Frame)
        (fresh : List Bool) → Fits s z n slots outs frame fresh → SeesActs z n as' → HasAt whole p (code_acts as' n p)
        → Comes whole s (at p stack slots outs) (p + length_acts as') stack z n frame.vars (acts as' frame fresh outs)
    acts_run Nothing n p stack slots outs frame fresh f sees has =
        let e : p ≡ p + 0 = omega arith in
        let size = f.size in
        comes_at whole s z (at p stack slots outs) p (p + 0) n stack frame.vars
        (Ok (record { vars = frame.vars; outs = outs })) e
        (record {
          slots' = slots;
          leads = stays whole s (at p stack slots outs);
          shows = λ x lt. f.shows.vars x (omega arith);
          size = f.size;
          kept = λ x far. refl;
          total = f.total;
          ports = f.ports;
        })
    acts_run (Do a rest) n p stack slots outs frame fresh f sees has =
        let q = p + length_act a in
        let end : q + length_acts rest ≡ p + (length_act a + length_acts rest) = omega arith in
        let there =
        has_back whole p (length_act a) q (code_act a n p) (code_acts rest n q) (act-length a n p) refl has in
        comes_at whole s z (at p stack slots outs) (q + length_acts rest)
        (p + (length_act a + length_acts rest)) n stack
        frame.vars _ end
        (then_comes whole s z (at p stack slots outs) q (q + length_acts rest) n stack frame.vars
        (act a frame fresh outs)
        (λ e. acts rest (with_vars frame e.vars) fresh e.outs)
        (act_runs a n p stack slots outs frame fresh f sees.0 (has_front whole p (code_act a n p) _ has))
        (λ e c. acts_run rest n q stack c.slots' e.outs (with_vars frame e.vars) fresh
        (next_fits whole s z (at p stack slots outs) q n stack slots outs frame fresh frame.vars e f c) sees.1 there))

    branches_run : (bs : Branches) (n p end : ℕ) (stack slots : List ℤ) (outs : List Value) (frame : Frame)
        (fresh : List Bool) (otherwise : Result Effect Trap) → Fits s z n slots outs frame fresh → SeesBranches z n bs
        → HasAt whole p (code_branches bs n end p)
        → Comes whole s (at (p + length_branches bs) stack slots outs) end stack z n frame.vars otherwise
        → Comes whole s (at p stack slots outs) end stack z n frame.vars (act_first bs frame fresh outs otherwise)
    branches_run NoBranch n p end stack slots outs frame fresh otherwise f sees has others =
        let e : p + 0 ≡ p = omega arith in
        subst (λ k. Comes whole s (at k stack slots outs) end stack z n frame.vars otherwise) e others
    branches_run (Where guard actions rest) n p end stack slots outs frame fresh otherwise f sees has others =
        let g = length_of guard in
        let m = length_acts actions in
        let q = p + g in
        let no = p + g + m + 2 in
        let body = code_acts actions n (q + 1) in
        let tail = code.Jump end ∷ code_branches rest n end no in
        let back =
        has_back whole p g q (code_of guard p) (code.JumpZero no ∷ (body ++ tail)) (code-length guard p) refl has in
        let later = has_back whole (q + 1) m (q + 1 + m) body tail (acts-length actions n (q + 1)) refl back.1 in
        let place : q + 1 + m + 1 ≡ no = omega arith in
        let e : p + (g + m + 2 + length_branches rest) ≡ no + length_branches rest = omega arith in
        let yes =
        jump_after (at (q + 1) stack slots outs) (q + 1 + m) end n stack frame.vars (acts actions frame fresh outs)
        later.0 (acts_run actions n (q + 1) stack slots outs frame fresh f sees.1
        (has_front whole (q + 1) body tail back.1)) in
        let not =
        branches_run rest n no end stack slots outs frame fresh otherwise f sees.2
        (subst (λ k. HasAt whole k (code_branches rest n end no)) place later.1)
        (subst (λ k. Comes whole s (at k stack slots outs) end stack z n frame.vars otherwise) e others) in
        with_value whole s z (at p stack slots outs) q end n stack frame.vars (eval guard frame fresh) _
        (value_runs guard n p stack slots outs frame fresh f sees.0 (has_front whole p (code_of guard p) _ has))
        (λ v. choice (is_true v) q no end n v stack slots frame.vars outs (acts actions frame fresh outs)
        (act_first rest frame fresh outs otherwise) refl back.0 yes not)
