-- The code of actions has at each place what the verifier asks of its instruction.
use Rattle.std.proofs.Common.{◌≡◌, ◌∙◌, ◌⊎◌, inl, inr, ⊎_elim, ℕ, zero, suc, ◌+◌, ◌-◌, ◌<◌, ◌≤◌, ℤ, Bool, true, false}
use Rattle.std.proofs.Common.{◌&&◌, ◌||◌, not, if◌then◌else◌, List, [], ◌∷◌, ◌++◌, length, Option, Some, None, refl}
use Rattle.std.proofs.Common.{sym, ap, subst, arith, add-one, nat_lt, nat_eq}
use Rattle.std.specs.Prelude.{slice_get, filter}
use Rattle.std.specs.List.{list_any}
use Rattle.std.proofs.lemmas.Bool.{and_parts, cases_lt}
use Rattle.std.proofs.lemmas.Int.{ints}
use Rattle.list_lemmas.proofs.Numbers.{nat_eq-self}
use Rattle.pals_base.specs.ExpressionValues.{same_number}
use Rattle.pals_base.specs.ExpressionAndActionTrees.{Expression, Action, Assign, Emit, If, For, Actions, Nothing, Do}
use Rattle.pals_base.specs.ExpressionAndActionTrees.{Branches}
use Rattle.pals_base.specs.ExpressionAndActionTrees.{NoBranch, Where}
use Rattle.step_code.specs.declared.instr.Instr.{Instr}
use Rattle.step_code.specs.declared.instr.Instr.TheVariants as code
use Rattle.step_code.specs.declared.instr.CodeParts.{CodeParts}
use Rattle.step_code.specs.declared.loops.LoopSpan.{LoopSpan}
use Rattle.step_code.specs.Loops.{closes, loop_from, loop_at, with_loop, loops_below, around}
use Rattle.step_code.specs.proof.VerifierRules.{on_some, stays, ends_loop}
use Rattle.step_code.specs.CodeLengths.{length_of, length_act, length_acts, length_branches}
use Rattle.step_compiler.specs.ExpressionAndActionInstructions.{code_of, code_act, code_acts, code_branches}
use Rattle.step_compiler.proofs.BehaviourAccessBounds.{Sees, Sizes, SeesAct, SeesActs, SeesBranches}
use Rattle.step_compiler.proofs.PlacedCodeLengths.{HasAt, has_front, has_back, code-length, act-length, acts-length}
use Rattle.step_compiler.proofs.PlacedCodeLengths.{branches-length}
use Rattle.step_compiler.proofs.LoopsClosedWithinParts.{Outer, Closed, jump_stays, closed_both, one_closed, none_closed}
use Rattle.step_compiler.proofs.LoopsClosedWithinParts.{loopless, starts_none, not_loop, expr-loopless, expr_closed}
use Rattle.step_compiler.proofs.LoopsClosedWithinParts.{act_closed, acts_closed, branches_closed}
use Rattle.step_compiler.proofs.StackHeights.{height, height_next, height_at, expr_height, act_height, acts_height}
use Rattle.step_compiler.proofs.StackHeights.{branches_height}
use Rattle.step_compiler.proofs.VerifiedExpressions.{AreFine, less_not, one_fine, both_fine, none_fine, fine_at}
use Rattle.step_compiler.proofs.VerifiedExpressions.{plain_fine, jump_fine, zero_fine, expr_fine}

-- the loops that start before a stretch end before it, or have all of it in their bodies and a slot below n
pub record Round (whole : List Instr) (p q n : ℕ) : Type 0 where
  pub each : (k : ℕ) (l : LoopSpan) → loop_at whole k ≡ Some l → k < p → (l.exit ≤ p) ⊎ ((q < l.exit) × (l.slot < n))

pub round_outer : (whole : List Instr) (p q n : ℕ) → Round whole p q n → Outer whole p q
round_outer whole p q n round =
    record {
      each = λ k l is before.
          ⊎_elim (λ (ended : l.exit ≤ p). inl ended) (λ around. inr around.0) (round.each k l is before);
    }

pub round_part : (whole : List Instr) (p p' q' q n : ℕ) → p ≤ p' → q' ≤ q → Round whole p q n → Closed whole p p'
    → Round whole p' q' n
round_part whole p p' q' q n le le' round closed = record {
  each = λ k l is before.
      ⊎_elim
      (λ (early : k < p).
      ⊎_elim (λ (ended : l.exit ≤ p). let e : l.exit ≤ p' = omega arith in inl e)
      (λ around. let far = around.0 in let e : q' < l.exit = omega arith in inr (e, around.1))
      (round.each k l is early))
      (λ (from : p ≤ k). inl (closed.each k l is from before))
      (cases_lt k p);
}

-- ---- a stretch without loops
no_loop : (whole : List Instr) (c : List Instr) (p k : ℕ) (l : LoopSpan) → loopless c ≡ true → HasAt whole p c
    → loop_at whole k ≡ Some l → p ≤ k → k < p + length c → ⊥
no_loop whole [] p k l none has is from before = omega arith
no_loop whole (i ∷ c) p k l none has is from before =
    let both = and_parts (starts_none i) (loopless c) none in
    ⊎_elim
    (λ (here : k < p + 1).
    let same : k ≡ p = omega arith in
    let clash : ◌≡◌ {A = Option LoopSpan} None (Some l) = sym (not_loop whole p i both.0)
    ∙ sym (ap (loop_from whole p) has.0) ∙ sym (ap (loop_at whole) same) ∙ is in
    absurd cc)
    (λ (later : p + 1 ≤ k). no_loop whole c (p + 1) k l both.1 has.1 is later (omega arith))
    (cases_lt k (p + 1))

stays_in : (whole : List Instr) (e : Expression) (p n k t : ℕ) → HasAt whole p (code_of e p)
    → Round whole p (p + length_of e) n → p ≤ k → k < t → t ≤ p + length_of e → stays whole k t ≡ true
stays_in whole e p n k t has round from later before =
    let size = code-length e p in
    let none =
    λ (j : ℕ) (l : LoopSpan) (is : loop_at whole j ≡ Some l) (at : p ≤ j) (below : j < p + length_of e).
    no_loop whole (code_of e p) p j l (expr-loopless e p) has is at (omega arith) in
    jump_stays whole k t later
    (record {
      each = λ j l is under.
          ⊎_elim
          (λ (early : j < p). ⊎_elim (λ (ended : l.exit ≤ p). let x : l.exit ≤ k = omega arith in inl x)
          (λ around. let far = around.0 in let x : t < l.exit = omega arith in inr x) (round.each j l is early))
          (λ (at : p ≤ j). absurd (none j l is at (omega arith)))
          (cases_lt j p);
    })
    (record { each = λ j l is at under. absurd (none j l is (omega arith) (omega arith)) })

-- ---- loops

same_int : (v : ℤ) → same_number v v ≡ true
same_int v = grind (arith, ints)

pub loop_there : (whole : List Instr) (p n m : ℕ) (low high : ℤ)
    → slice_get whole p ≡ Some (code.LoopStart n low high (p + m + 2))
    → slice_get whole (p + 1 + m) ≡ Some (code.LoopNext n high (p + 1))
    → loop_at whole p ≡ Some (record { start = p; exit = p + m + 2; slot = n; low = low; high = high })
loop_there whole p n m low high start next =
    let exit = p + m + 2 in
    let l : LoopSpan = record { start = p; exit = exit; slot = n; low = low; high = high } in
    let place : exit - 1 ≡ p + 1 + m = omega arith in
    let closed : closes l (slice_get whole (exit - 1)) ≡ true =
    ap (closes l) (ap (slice_get whole) place ∙ next)
    ∙ ap (λ x. x && same_number high high && nat_eq (p + 1) (p + 1)) (nat_eq-self n)
    ∙ ap (λ x. x && nat_eq (p + 1) (p + 1)) (same_int high) ∙ nat_eq-self (p + 1) in
    let some : nat_lt 0 exit ≡ true = (let less : 0 < exit = omega arith in grind arith) in
    ap (loop_from whole p) start ∙ ap (λ x. if x && closes l (slice_get whole (exit - 1)) then Some l else None) some
    ∙ ap (λ x. if x then Some l else None) closed

-- no loop round a place has a slot
none_step : (f : LoopSpan → Bool) (g : LoopSpan → Bool) (code : List Instr) (o : Option LoopSpan) (ls : List LoopSpan)
    → ((l : LoopSpan) → o ≡ Some l → g l ≡ true → f l ≡ false) → list_any f (filter g ls) ≡ false
    → list_any f (filter g (with_loop o ls)) ≡ false
none_step f g code None ls here rest = rest
none_step f g code (Some l) ls here rest = by (g l) refl
  where
    by : (t : Bool) → g l ≡ t → list_any f (if t then l ∷ filter g ls else filter g ls) ≡ false
    by true is = ap (λ x. x || list_any f (filter g ls)) (here l refl is) ∙ rest
    by false is = rest

pub none_round : (code : List Instr) (f : LoopSpan → Bool) (p m : ℕ)
    → ((k : ℕ) (l : LoopSpan) → loop_at code k ≡ Some l → k < m → p < l.exit → f l ≡ false)
    → list_any f (filter (λ l. nat_lt p l.exit) (loops_below code m)) ≡ false
none_round code f p zero all = refl
none_round code f p (suc m) all =
    none_step f (λ l. nat_lt p l.exit) code (loop_at code m) (loops_below code m)
    (λ l is lies. all m l is (omega arith) (let x = lies in grind arith))
    (none_round code f p m (λ k l is less lies. all k l is (omega arith) lies))

pub free_slot : (whole : List Instr) (p q n : ℕ) → Round whole p q n
    → list_any (λ l. nat_eq l.slot n) (around whole p) ≡ false
free_slot whole p q n round = none_round whole (λ l. nat_eq l.slot n) p p (λ k l is less lies.
    ⊎_elim (λ (ended : l.exit ≤ p). absurd (omega arith))
    (λ around. let low = around.1 in let e : nat_eq l.slot n ≡ false = grind arith in e) (round.each k l is less))

-- ---- actions
pub record Matches (c : CodeParts) (z : Sizes) : Type 0 where
  pub declared : z.declared ≡ c.vars
  pub slots : z.slots ≡ c.vars + c.loops
  pub outs : z.outs ≡ c.outs
  pub ins : z.ins ≡ c.ins

module _ (c : CodeParts) (z : Sizes) (fits : Matches c z) where
  pub value_fine : (e : Expression) (p n : ℕ) → HasAt c.instrs p (code_of e p) → height c.instrs p ≡ 0
      → Round c.instrs p (p + length_of e) n → p + length_of e < length c.instrs → n ≤ z.slots → Sees n z.ins e
      → AreFine c p (p + length_of e)
  value_fine e p n has at round inside room sees =
      expr_fine c p (p + length_of e) n z.ins
      (λ k t from later before. stays_in c.instrs e p n k t has round from later before) inside
      (let s = fits.slots in omega arith) fits.ins e p 0 (omega arith) (omega arith) has at sees

  -- a value, and an instruction that takes it
  taken_fine : (i : Instr) (e : Expression) (p n : ℕ) → starts_none i ≡ true → HasAt c.instrs p (code_of e p ++ i ∷ [])
      → height c.instrs p ≡ 0 → Round c.instrs p (p + (length_of e + 1)) n → p + (length_of e + 1) < length c.instrs
      → n ≤ z.slots → Sees n z.ins e
      → ((q : ℕ) → slice_get c.instrs q ≡ Some i → q + 1 < length c.instrs → height c.instrs q ≡ 1
      → AreFine c q (q + 1)) → AreFine c p (p + (length_of e + 1))
  taken_fine i e p n none has at round inside room sees last =
      let q = p + length_of e in
      let front = has_front c.instrs p (code_of e p) (i ∷ []) has in
      let here = (has_back c.instrs p (length_of e) q (code_of e p) (i ∷ []) (code-length e p) refl has).0 in
      both_fine c p q (p + (length_of e + 1))
      (value_fine e p n front at
      (round_part c.instrs p p q (p + (length_of e + 1)) n (omega arith) (omega arith) round
      (none_closed c.instrs p p (omega arith))) (omega arith) room sees)
      (fine_at c q (q + 1) (p + (length_of e + 1)) (omega arith)
      (last q here (omega arith) (expr_height c.instrs e p 0 front at)))

  start_fine : (p n m : ℕ) (low high : ℤ) → slice_get c.instrs p ≡ Some (code.LoopStart n low high (p + m + 2))
      → slice_get c.instrs (p + 1 + m) ≡ Some (code.LoopNext n high (p + 1)) → Round c.instrs p (p + m + 2) n
      → Closed c.instrs p (p + m + 2)
      → p + m + 2 < length c.instrs → c.vars ≤ n → n < c.vars + c.loops → height c.instrs p ≡ 0
      → height c.instrs (p + 1) ≡ 0 → height c.instrs (p + m + 2) ≡ 0 → AreFine c p (p + 1)
  start_fine p n m low high start next round closed inside above below at one end =
      let exit = p + m + 2 in
      let straight = jump_stays c.instrs p exit (omega arith) (round_outer c.instrs p exit n round) closed in
      one_fine c p (p + 1) (code.LoopStart n low high exit) start refl (record {
        jump = λ t is. let same : exit ≡ t = cc in
            subst (λ x. (p < x) × (x < length c.instrs) × (stays c.instrs p x ≡ true)) same
            (omega arith, inside, straight);
        next = λ goes. omega arith;
        loop = ap (λ o. not (on_some o (λ l. true))) (loop_there c.instrs p n m low high start next);
        slot =
            ap (λ x. (x || not (nat_lt n (c.vars + c.loops))) || list_any (λ l. nat_eq l.slot n) (around c.instrs p))
            (let x : nat_lt n c.vars ≡ false = grind arith in x)
            ∙ ap (λ x. x || list_any (λ l. nat_eq l.slot n) (around c.instrs p)) (less_not n (c.vars + c.loops) below)
            ∙ free_slot c.instrs p exit n round;
        enough = omega arith;
        level = λ t way.
            ⊎_elim (λ (is : exit ≡ t). ap (height c.instrs) (sym is) ∙ end ∙ sym (ap (λ k. k - 0 + 0) at))
            (λ rest. ⊎_elim (λ (is : p + 1 ≡ t). ap (height c.instrs) (sym is) ∙ one ∙ sym (ap (λ k. k - 0 + 0) at))
            (λ none. absurd none) rest) way;
      })

  next_fine : (p n m : ℕ) (low high : ℤ) → slice_get c.instrs p ≡ Some (code.LoopStart n low high (p + m + 2))
      → slice_get c.instrs (p + 1 + m) ≡ Some (code.LoopNext n high (p + 1))
      → p + m + 2 < length c.instrs → c.vars ≤ n → n < c.vars + c.loops → height c.instrs (p + 1) ≡ 0
      → height c.instrs (p + 1 + m) ≡ 0 → AreFine c (p + 1 + m) (p + 1 + m + 1)
  next_fine p n m low high start next inside above below one at =
      let q = p + 1 + m in
      let l : LoopSpan = record { start = p; exit = p + m + 2; slot = n; low = low; high = high } in
      let after_it : height c.instrs (q + 1) ≡ 0 = height_next c.instrs q 0 (code.LoopNext n high (p + 1)) next at in
      let ends : ends_loop c.instrs q (p + 1) ≡ true =
      ap (ends_loop c.instrs q) (add-one p)
      ∙ ap (λ o. on_some o (λ x. nat_eq x.exit (q + 1))) (loop_there c.instrs p n m low high start next)
      ∙ (let e : p + m + 2 ≡ q + 1 = omega arith in ap (λ x. nat_eq x (q + 1)) e ∙ nat_eq-self (q + 1)) in
      one_fine c q (q + 1) (code.LoopNext n high (p + 1)) next refl (record {
        jump = λ t is. cc;
        next = λ goes. omega arith;
        loop = ap not ends;
        slot =
            ap (λ x. x || not (nat_lt n (c.vars + c.loops))) (let x : nat_lt n c.vars ≡ false = grind arith in x)
            ∙ less_not n (c.vars + c.loops) below;
        enough = omega arith;
        level = λ t way.
            ⊎_elim (λ (is : p + 1 ≡ t). ap (height c.instrs) (sym is) ∙ one ∙ sym (ap (λ k. k - 0 + 0) at))
            (λ rest. ⊎_elim (λ (is : q + 1 ≡ t). ap (height c.instrs) (sym is) ∙ after_it
            ∙ sym (ap (λ k. k - 0 + 0) at)) (λ none. absurd none) rest) way;
      })

  mutual
    pub act_fine : (a : Action) (n p : ℕ) → HasAt c.instrs p (code_act a n p) → height c.instrs p ≡ 0
        → Round c.instrs p (p + length_act a) n → SeesAct z n a → p + length_act a < length c.instrs → n ≤ z.slots
        → z.declared ≤ n → AreFine c p (p + length_act a)
    act_fine (Assign x e) n p has at round sees inside room above =
        taken_fine (code.Store x) e p n refl has at round inside room sees.1
        (λ q here on level. plain_fine c q 1 (code.Store x) refl here on level (omega arith)
        (less_not x c.vars (let d = fits.declared in let s = sees.0 in omega arith)))
    act_fine (Emit x e) n p has at round sees inside room above =
        taken_fine (code.Emit x) e p n refl has at round inside room sees.1
        (λ q here on level. plain_fine c q 1 (code.Emit x) refl here on level (omega arith)
        (less_not x c.outs (let d = fits.outs in let s = sees.0 in omega arith)))
    act_fine (If branches otherwise) n p has at round sees inside room above =
        let lb = length_branches branches in
        let la = length_acts otherwise in
        let q = p + lb in
        let end = p + lb + la in
        let place : p + (lb + la) ≡ end = omega arith in
        let part = code_branches branches n end p in
        let front = has_front c.instrs p part (code_acts otherwise n q) has in
        let back =
        has_back c.instrs p lb q part (code_acts otherwise n q) (branches-length branches n end p) refl has in
        let level = branches_height c.instrs branches n end p front at in
        let closed = branches_closed c.instrs branches n end p q front refl in
        let tail = acts_closed c.instrs otherwise n q end back refl in
        let whole = subst (λ k. Round c.instrs p k n) place round in
        fine_at c p end (p + (lb + la)) (sym place)
        (both_fine c p q end (branches_fine branches n end p front at whole tail
        (acts_height c.instrs otherwise n q back level) (omega arith) (omega arith) sees.0 room above)
        (acts_fine otherwise n q back level (round_part c.instrs p q end end n (omega arith) (omega arith) whole closed)
        sees.1 (omega arith) room above))
    act_fine (For low high body) n p has at round sees inside room above =
        let m = length_acts body in
        let q = p + 1 + m in
        let exit = p + m + 2 in
        let place : p + (m + 2) ≡ exit = omega arith in
        let code_body = code_acts body (n + 1) (p + 1) in
        let front = has_front c.instrs (p + 1) code_body (code.LoopNext n high (p + 1) ∷ []) has.1 in
        let next =
        (has_back c.instrs (p + 1) m q code_body (code.LoopNext n high (p + 1) ∷ [])
        (acts-length body (n + 1) (p + 1)) refl has.1).0 in
        let one : height c.instrs (p + 1) ≡ 0 = height_next c.instrs p 0 (code.LoopStart n low high exit) has.0 at in
        let two = acts_height c.instrs body (n + 1) (p + 1) front one in
        let three : height c.instrs (q + 1) ≡ 0 = height_next c.instrs q 0 (code.LoopNext n high (p + 1)) next two in
        let end = height_at c.instrs (q + 1) exit 0 (omega arith) three in
        let whole = subst (λ k. Round c.instrs p k n) place round in
        let closed = act_closed c.instrs (For low high body) n p exit has (omega arith) in
        let d = fits.declared in
        let s = fits.slots in
        let here = sees.0 in
        let inner : Round c.instrs (p + 1) (p + 1 + m) (n + 1) = record {
          each = λ k l is before.
              ⊎_elim
              (λ (early : k < p).
              ⊎_elim (λ (ended : l.exit ≤ p). let x : l.exit ≤ p + 1 = omega arith in inl x)
              (λ around. let far = around.0 in let low' = around.1 in let x : p + 1 + m < l.exit = omega arith in
              let y : l.slot < n + 1 = omega arith in inr (x, y)) (whole.each k l is early))
              (λ (from : p ≤ k).
              let same : k ≡ p = omega arith in
              let own = sym (loop_there c.instrs p n m low high has.0 next) ∙ sym (ap (loop_at c.instrs) same) ∙ is in
              let l_is : ◌≡◌ {A = LoopSpan}
              (record { start = p; exit = exit; slot = n; low = low; high = high }) l = cc in
              let e = ap (λ (x : LoopSpan). x.exit) l_is in
              let f = ap (λ (x : LoopSpan). x.slot) l_is in
              let x : p + 1 + m < l.exit = omega arith in
              let y : l.slot < n + 1 = omega arith in
              inr (x, y))
              (cases_lt k p);
        } in
        fine_at c p exit (p + (m + 2)) (sym place)
        (both_fine c p (p + 1) exit
        (start_fine p n m low high has.0 next whole closed (omega arith) (omega arith) (omega arith) at one end)
        (both_fine c (p + 1) q exit
        (acts_fine body (n + 1) (p + 1) front one inner sees.1 (omega arith) (omega arith) (omega arith))
        (fine_at c q (q + 1) exit (omega arith)
        (next_fine p n m low high has.0 next (omega arith) (omega arith) (omega arith) one two))))

    pub acts_fine : (as' : Actions) (n p : ℕ) → HasAt c.instrs p (code_acts as' n p) → height c.instrs p ≡ 0
        → Round c.instrs p (p + length_acts as') n → SeesActs z n as' → p + length_acts as' < length c.instrs
        → n ≤ z.slots → z.declared ≤ n → AreFine c p (p + length_acts as')
    acts_fine Nothing n p has at round sees inside room above = none_fine c p (p + 0) (omega arith)
    acts_fine (Do a rest) n p has at round sees inside room above =
        let q = p + length_act a in
        let end = q + length_acts rest in
        let place : p + (length_act a + length_acts rest) ≡ end = omega arith in
        let front = has_front c.instrs p (code_act a n p) (code_acts rest n q) has in
        let back =
        has_back c.instrs p (length_act a) q (code_act a n p) (code_acts rest n q) (act-length a n p) refl has in
        let whole = subst (λ k. Round c.instrs p k n) place round in
        let closed = act_closed c.instrs a n p q front refl in
        fine_at c p end (p + (length_act a + length_acts rest)) (sym place)
        (both_fine c p q end (act_fine a n p front at
        (round_part c.instrs p p q end n (omega arith) (omega arith) whole (none_closed c.instrs p p (omega arith)))
        sees.0 (omega arith) room above)
        (acts_fine rest n q back (act_height c.instrs a n p front at)
        (round_part c.instrs p q end end n (omega arith) (omega arith) whole closed) sees.1 (omega arith)
        room above))

    branches_fine : (bs : Branches) (n end p : ℕ) → HasAt c.instrs p (code_branches bs n end p) → height c.instrs p ≡ 0
        → Round c.instrs p end n → Closed c.instrs (p + length_branches bs) end → height c.instrs end ≡ 0
        → p + length_branches bs ≤ end → end < length c.instrs
        → SeesBranches z n bs → n ≤ z.slots → z.declared ≤ n → AreFine c p (p + length_branches bs)
    branches_fine NoBranch n end p has at round tail level before inside sees room above =
        none_fine c p (p + 0) (omega arith)
    branches_fine (Where guard actions rest) n end p has at round tail level before inside sees room above =
        let g = length_of guard in
        let m = length_acts actions in
        let r = p + g in
        let j = r + 1 + m in
        let later = p + g + m + 2 in
        let all = p + (g + m + 2 + length_branches rest) in
        let body = code_acts actions n (r + 1) in
        let behind = code.Jump end ∷ code_branches rest n end later in
        let front = has_front c.instrs p (code_of guard p) (code.JumpZero later ∷ (body ++ behind)) has in
        let back =
        has_back c.instrs p g r (code_of guard p) (code.JumpZero later ∷ (body ++ behind))
        (code-length guard p) refl has in
        let inner = has_front c.instrs (r + 1) body behind back.1 in
        let last = has_back c.instrs (r + 1) m j body behind (acts-length actions n (r + 1)) refl back.1 in
        let place : j + 1 ≡ later = omega arith in
        let rest_at = subst (λ k. HasAt c.instrs k (code_branches rest n end later)) place last.1 in
        let one = expr_height c.instrs guard p 0 front at in
        let two : height c.instrs (r + 1) ≡ 0 = height_next c.instrs r 1 (code.JumpZero later) back.0 one in
        let three = acts_height c.instrs actions n (r + 1) inner two in
        let four : height c.instrs (j + 1) ≡ 0 = height_next c.instrs j 0 (code.Jump end) last.0 three in
        let at_later = height_at c.instrs (j + 1) later 0 place four in
        let guard_closed = expr_closed c.instrs guard p r front refl in
        let zero_closed = one_closed c.instrs r (r + 1) (code.JumpZero later) back.0 refl refl in
        let body_closed = acts_closed c.instrs actions n (r + 1) j inner refl in
        let jump_closed = one_closed c.instrs j (j + 1) (code.Jump end) last.0 refl refl in
        let rest_closed = branches_closed c.instrs rest n end later all rest_at (omega arith) in
        let upto_r1 = closed_both c.instrs p r (r + 1) (omega arith) guard_closed zero_closed in
        let upto_j = closed_both c.instrs p (r + 1) j (omega arith) upto_r1 body_closed in
        let upto_later =
        subst (λ k. Closed c.instrs p k) place
        (closed_both c.instrs p j (j + 1) (omega arith) upto_j jump_closed) in
        let r_later =
        subst (λ k. Closed c.instrs r k) place
        (closed_both c.instrs r j (j + 1) (omega arith)
        (closed_both c.instrs r (r + 1) j (omega arith) zero_closed body_closed) jump_closed) in
        let later_end =
        closed_both c.instrs later all end (omega arith) rest_closed
        (subst (λ k. Closed c.instrs k end) refl tail) in
        let j_end =
        closed_both c.instrs j later end (omega arith) (subst (λ k. Closed c.instrs j k) place jump_closed)
        later_end in
        let at_r = round_part c.instrs p r later end n (omega arith) (omega arith) round guard_closed in
        let at_j = round_part c.instrs p j end end n (omega arith) (omega arith) round upto_j in
        let same : later + length_branches rest ≡ all = omega arith in
        both_fine c p r all
        (value_fine guard p n front at
        (round_part c.instrs p p r end n (omega arith) (omega arith) round (none_closed c.instrs p p (omega arith)))
        (omega arith) room sees.0)
        (both_fine c r (r + 1) all
        (zero_fine c r later 0 back.0 (omega arith) (omega arith)
        (jump_stays c.instrs r later (omega arith) (round_outer c.instrs r later n at_r) r_later) (omega arith)
        one at_later)
        (both_fine c (r + 1) j all
        (acts_fine actions n (r + 1) inner two
        (round_part c.instrs p (r + 1) j end n (omega arith) (omega arith) round upto_r1) sees.1
        (omega arith) room above)
        (both_fine c j (j + 1) all
        (jump_fine c j end 0 last.0 (omega arith) inside
        (jump_stays c.instrs j end (omega arith) (round_outer c.instrs j end n at_j) j_end) three level)
        (subst (λ k. AreFine c k all) (sym place)
        (fine_at c later (later + length_branches rest) all same
        (branches_fine rest n end later rest_at at_later
        (round_part c.instrs p later end end n (omega arith) (omega arith) round upto_later)
        (subst (λ k. Closed c.instrs k end) (sym same) tail) level (omega arith) inside sees.2 room above))))))
