-- Code without a fault never gets stuck, by an invariant of every place of its run.
use Rattle.std.proofs.Common.{◌≡◌, ◌∙◌, inl, inr, ℕ, zero, suc, ◌+◌, ◌-◌, ◌<◌, ◌≤◌, ℤ, pos, ◌+ℤ◌, Bool, true, false}
use Rattle.std.proofs.Common.{if◌then◌else◌, List, [], ◌∷◌, length, Option, Some, None, refl, sym, subst, ⊎_elim, arith}
use Rattle.std.specs.Prelude.{not, slice_get, slice_set, int_lt, Result, Ok, Err}
use Rattle.std.proofs.lemmas.List.{length-set}
use Rattle.std.proofs.lemmas.Option.{slice_get-get_or}
use Rattle.pals_base.specs.declared.basic_types.Trap.{Trap}
use Rattle.pals_base.specs.declared.basic_types.PortValue.{PortValue as Value}
use Rattle.pals_base.specs.declared.basic_types.PortValue.TheVariants.{Present, Absent}
use Rattle.pals_base.specs.declared.behaviour.Op.{Op}
use Rattle.pals_base.specs.declared.behaviour.Op.TheVariants as op
use Rattle.pals_base.specs.Arithmetic.{negation_of, magnitude_of}
use Rattle.pals_base.specs.ExpressionValues.{is_true, truth, applied}
use Rattle.step_code.specs.declared.instr.Instr.{Instr}
use Rattle.step_code.specs.declared.instr.Instr.TheVariants.{Push, Load, Store, Port, Fresh, Neg, Abs, Not, Add, Sub}
use Rattle.step_code.specs.declared.instr.Instr.TheVariants.{Mul, Quot, Mod, Rem, Eq, Ne, Lt, Le, Gt, Ge, And, Or, Xor}
use Rattle.step_code.specs.declared.instr.Instr.TheVariants.{Jump, JumpZero, LoopStart, LoopNext, Emit, End}
use Rattle.step_code.specs.InstructionEffects.{Next, Goes, Ends, Traps, Sticks, StepInputs, on_top, on_found, on_result}
use Rattle.step_code.specs.InstructionEffects.{on_two, step}
use Rattle.step_code.specs.declared.loops.LoopSpan.{LoopSpan}
use Rattle.step_code.specs.Loops.{around}
use Rattle.step_code.specs.SuccessorsAndWeights.{forward_successors}
use Rattle.step_code.specs.proof.CodeRuns.{Continuation, then_run, run}
use Rattle.step_code.specs.proof.LoopNesting.{Nests, IsNested}
use Rattle.step_code.specs.proof.StackHeights.{takes, after, Member, Reaches, all_successors}
use Rattle.step_code.specs.proof.SlotsAndPorts.{FindsSlotsAndPorts}
use Rattle.step_code.specs.proof.StuckFreedomConditions.{HasAgreeingHeights, HasSlotsAndPorts, IsNotStuck}

abbrev pub Holds : Type 1
Holds = ℕ → List ℤ → List ℤ → List Value → Type 0

abbrev pub Fine : Holds → Next → Type 0
Fine P (Goes q stack slots outs) = P q stack slots outs
Fine P (Ends state slots outs) = Unit {0}
Fine P (Traps trap) = Unit {0}
Fine P Sticks = ⊥

top_fine : (P : Holds) (n : ℕ) (stack : List ℤ) (go : ℤ → List ℤ → Next) → suc n ≤ length stack
    → ((v : ℤ) (rest : List ℤ) → length stack ≡ suc (length rest) → Fine P (go v rest)) → Fine P (on_top stack go)
top_fine P n [] go has h = absurd (omega arith)
top_fine P n (v ∷ rest) go has h = h v rest refl

found_fine : {A : Type 0} (P : Holds) (xs : List A) (x : ℕ) (d : A) (go : A → Next) → x < length xs
    → ((y : A) → Fine P (go y)) → Fine P (on_found (slice_get xs x) go)
found_fine P xs x d go within h = subst (λ o. Fine P (on_found o go)) (sym (slice_get-get_or xs x d within)) (h _)

result_fine : (P : Holds) (r : Result ℤ Trap) (go : ℤ → Next) → ((v : ℤ) → Fine P (go v)) → Fine P (on_result r go)
result_fine P (Ok v) go h = h v
result_fine P (Err trap) go h = tt

if_fine : (P : Holds) (b : Bool) (x y : Next) → Fine P x → Fine P y → Fine P (if b then x else y)
if_fine P true x y h k = h
if_fine P false x y h k = k

-- the condition on the successor of an instruction
abbrev Wants : Holds → ℕ → ℕ → List ℤ → List Value → Instr → Type 0
Wants P p h slots outs i =
    (q : ℕ) → Member (all_successors p i) q → (stack' slots' : List ℤ) (outs' : List Value) → length stack' ≡ after h i
    → length slots' ≡ length slots → length outs' ≡ length outs → P q stack' slots' outs'

two_fine : (P : Holds) (o : Op) (p : ℕ) (stack slots : List ℤ) (outs : List Value) → 2 ≤ length stack
    → ((stack' : List ℤ) → length stack' ≡ length stack - 2 + 1 → P (p + 1) stack' slots outs)
    → Fine P (on_two o p stack slots outs)
two_fine P o p stack slots outs has h =
    top_fine P 1 stack _ has
    (λ b below e. top_fine P 0 below _ (omega arith)
    (λ a rest f. result_fine P (applied o a b) _
    (λ v. let l : length (v ∷ rest) ≡ length stack - 2 + 1 = omega arith in h (v ∷ rest) l)))

step_fine : (P : Holds) (s : StepInputs) (i : Instr) (p : ℕ) (stack slots : List ℤ) (outs : List Value)
    → takes i ≤ length stack → FindsSlotsAndPorts (length slots) (length s.held) (length outs) i
    → length s.fresh ≡ length s.held
    → Wants P p (length stack) slots outs i → Fine P (step (Some i) s p stack slots outs)
step_fine P s (Push v) p stack slots outs has fed eq h =
    h (p + 1) (inl refl) (v ∷ stack) slots outs (omega arith) refl refl
step_fine P s (Load x) p stack slots outs has fed eq h =
    found_fine P slots x (pos 0) _ fed (λ v. h (p + 1) (inl refl) (v ∷ stack) slots outs (omega arith) refl refl)
step_fine P s (Store x) p stack slots outs has fed eq h =
    found_fine P slots x (pos 0) _ fed
    (λ b. top_fine P 0 stack _ has
    (λ v rest e. h (p + 1) (inl refl) rest (slice_set slots x v) outs (omega arith) (length-set slots x v) refl))
step_fine P s (Port x) p stack slots outs has fed eq h =
    found_fine P s.held x (pos 0) _ fed (λ v. h (p + 1) (inl refl) (v ∷ stack) slots outs (omega arith) refl refl)
step_fine P s (Fresh x) p stack slots outs has fed eq h =
    found_fine P s.fresh x false _ (omega arith)
    (λ b. h (p + 1) (inl refl) (truth b ∷ stack) slots outs (omega arith) refl refl)
step_fine P s Neg p stack slots outs has fed eq h =
    top_fine P 0 stack _ has
    (λ a rest e. result_fine P (negation_of a) _
    (λ v. h (p + 1) (inl refl) (v ∷ rest) slots outs (omega arith) refl refl))
step_fine P s Abs p stack slots outs has fed eq h =
    top_fine P 0 stack _ has
    (λ a rest e. result_fine P (magnitude_of a) _
    (λ v. h (p + 1) (inl refl) (v ∷ rest) slots outs (omega arith) refl refl))
step_fine P s Not p stack slots outs has fed eq h =
    top_fine P 0 stack _ has
    (λ a rest e. h (p + 1) (inl refl) (truth (not (is_true a)) ∷ rest) slots outs (omega arith) refl refl)
step_fine P s Add p stack slots outs has fed eq h =
    two_fine P op.Add p stack slots outs has (λ stack' l. h (p + 1) (inl refl) stack' slots outs l refl refl)
step_fine P s Sub p stack slots outs has fed eq h =
    two_fine P op.Sub p stack slots outs has (λ stack' l. h (p + 1) (inl refl) stack' slots outs l refl refl)
step_fine P s Mul p stack slots outs has fed eq h =
    two_fine P op.Mul p stack slots outs has (λ stack' l. h (p + 1) (inl refl) stack' slots outs l refl refl)
step_fine P s Quot p stack slots outs has fed eq h =
    two_fine P op.Quot p stack slots outs has (λ stack' l. h (p + 1) (inl refl) stack' slots outs l refl refl)
step_fine P s Mod p stack slots outs has fed eq h =
    two_fine P op.Mod p stack slots outs has (λ stack' l. h (p + 1) (inl refl) stack' slots outs l refl refl)
step_fine P s Rem p stack slots outs has fed eq h =
    two_fine P op.Rem p stack slots outs has (λ stack' l. h (p + 1) (inl refl) stack' slots outs l refl refl)
step_fine P s Eq p stack slots outs has fed eq h =
    two_fine P op.Eq p stack slots outs has (λ stack' l. h (p + 1) (inl refl) stack' slots outs l refl refl)
step_fine P s Ne p stack slots outs has fed eq h =
    two_fine P op.Ne p stack slots outs has (λ stack' l. h (p + 1) (inl refl) stack' slots outs l refl refl)
step_fine P s Lt p stack slots outs has fed eq h =
    two_fine P op.Lt p stack slots outs has (λ stack' l. h (p + 1) (inl refl) stack' slots outs l refl refl)
step_fine P s Le p stack slots outs has fed eq h =
    two_fine P op.Le p stack slots outs has (λ stack' l. h (p + 1) (inl refl) stack' slots outs l refl refl)
step_fine P s Gt p stack slots outs has fed eq h =
    two_fine P op.Gt p stack slots outs has (λ stack' l. h (p + 1) (inl refl) stack' slots outs l refl refl)
step_fine P s Ge p stack slots outs has fed eq h =
    two_fine P op.Ge p stack slots outs has (λ stack' l. h (p + 1) (inl refl) stack' slots outs l refl refl)
step_fine P s And p stack slots outs has fed eq h =
    two_fine P op.And p stack slots outs has (λ stack' l. h (p + 1) (inl refl) stack' slots outs l refl refl)
step_fine P s Or p stack slots outs has fed eq h =
    two_fine P op.Or p stack slots outs has (λ stack' l. h (p + 1) (inl refl) stack' slots outs l refl refl)
step_fine P s Xor p stack slots outs has fed eq h =
    two_fine P op.Xor p stack slots outs has (λ stack' l. h (p + 1) (inl refl) stack' slots outs l refl refl)
step_fine P s (Jump to) p stack slots outs has fed eq h = h to (inl refl) stack slots outs (omega arith) refl refl
step_fine P s (JumpZero to) p stack slots outs has fed eq h =
    top_fine P 0 stack _ has
    (λ v rest e. if_fine P (is_true v) _ _ (h (p + 1) (inr (inl refl)) rest slots outs (omega arith) refl refl)
    (h to (inl refl) rest slots outs (omega arith) refl refl))
step_fine P s (LoopStart slot low high exit) p stack slots outs has fed eq h =
    if_fine P (int_lt high low) _ _ (h exit (inl refl) stack slots outs (omega arith) refl refl)
    (found_fine P slots slot (pos 0) _ fed
    (λ b. h (p + 1) (inr (inl refl)) stack (slice_set slots slot low) outs (omega arith)
    (length-set slots slot low) refl))
step_fine P s (LoopNext slot high to) p stack slots outs has fed eq h =
    found_fine P slots slot (pos 0) _ fed
    (λ v. if_fine P (int_lt v high) _ _
    (h to (inl refl) stack (slice_set slots slot (v +ℤ pos 1)) outs (omega arith)
    (length-set slots slot (v +ℤ pos 1)) refl)
    (h (p + 1) (inr (inl refl)) stack slots outs (omega arith) refl refl))
step_fine P s (Emit x) p stack slots outs has fed eq h =
    found_fine P outs x Absent _ fed
    (λ b. top_fine P 0 stack _ has
    (λ v rest e. h (p + 1) (inl refl) rest slots (slice_set outs x (Present v)) (omega arith) refl
    (length-set outs x (Present v))))
step_fine P s (End state) p stack slots outs has fed eq h = tt

fine_goes : (rest : Continuation) (next : Next) → Fine (λ q stack slots outs. IsNotStuck (rest q stack slots outs)) next
    → IsNotStuck (then_run next rest)
fine_goes rest (Goes q stack slots outs) h = h
fine_goes rest (Ends state slots outs) h = tt
fine_goes rest (Traps trap) h = tt
fine_goes rest Sticks h = h

none_within : (code : List Instr) (p : ℕ) → slice_get code p ≡ None → p < length code → ⊥
none_within [] p is within = omega arith
none_within (i ∷ code) zero is within = cc
none_within (i ∷ code) (suc p) is within = none_within code p is (omega arith)

onward_later : (code : List Instr) (q p : ℕ) (i : Instr) → Nests code q i → Member (forward_successors q (Some i)) p
    → q < p
onward_later code q p (Jump to) n way = ⊎_elim (λ e. let on = n.later in omega arith) (λ no'. absurd no') way
onward_later code q p (JumpZero to) n way =
    ⊎_elim (λ e. let on = n.0.later in omega arith) (λ w. ⊎_elim (λ e. omega arith) (λ no'. absurd no') w) way
onward_later code q p (LoopStart slot low high exit) n way =
    ⊎_elim (λ e. let on = n.0.later in omega arith) (λ w. ⊎_elim (λ e. omega arith) (λ no'. absurd no') w) way
onward_later code q p (End state) n way = absurd way
onward_later code q p other n way = ⊎_elim (λ e. omega arith) (λ no'. absurd no') way

-- the beginning of each of these loops is reached
abbrev pub Begun : List Instr → List (Option ℕ) → List LoopSpan → Type 0
Begun code entries [] = Unit {0}
Begun code entries (l ∷ ls) = ((n : ℕ) × (h : ℕ) × Reaches code entries n l.start h) × Begun code entries ls

-- where a run of verified code may be
pub record Stands (code : List Instr) (entries : List (Option ℕ)) (slots# outs# p : ℕ) (stack slots : List ℤ)
    (outs : List Value) : Type 0 where
  pub within : p < length code
  pub slots_are : length slots ≡ slots#
  pub outs_are : length outs ≡ outs#
  pub steps : ℕ
  pub reached : Reaches code entries steps p (length stack)
  pub begun : Begun code entries (around code p)

module _ (code : List Instr) (entries : List (Option ℕ)) (s : StepInputs) (slots# outs# : ℕ) (nested : IsNested code)
    (level : HasAgreeingHeights code entries) (fed : HasSlotsAndPorts code slots# (length s.held) outs#)
    (eq : length s.fresh ≡ length s.held) where
  -- the invariant of every place of a run
  abbrev Going : Holds → Type 0
  Going P =
      (m p : ℕ) (stack slots : List ℤ) (outs : List Value) → p < length code → length slots ≡ slots#
      → length outs ≡ outs# → Reaches code entries m p (length stack) → Begun code entries (around code p)
      → P p stack slots outs

  -- to a later place
  further : (P : Holds) (m p q h : ℕ) (i : Instr) → Going P → slice_get code p ≡ Some i → Reaches code entries m p h
      → Member (forward_successors p (Some i)) q → q < length code → Begun code entries (around code q)
      → (stack slots : List ℤ) (outs : List Value) → length stack ≡ after h i → length slots ≡ slots#
      → length outs ≡ outs# → P q stack slots outs
  further P m p q h i again is reached way within begun stack slots outs high ls lo =
      again (suc m) q stack slots outs within ls lo (
        p,
        h,
        i,
        reached,
        is,
        level.enough m p h i reached is,
        way,
        onward_later code p q i (nested.each p i is) way,
        high,
      ) begun

  -- back to the beginning of the body: rule 3 gives it the height that it was entered with
  returns : (P : Holds) (m p slot to : ℕ) (high : ℤ) (stack slots : List ℤ) (outs : List Value) → Going P
      → slice_get code p ≡ Some (LoopNext slot high to) → (c : Nests code p (LoopNext slot high to))
      → length slots ≡ slots# → length outs ≡ outs#
      → Reaches code entries m p (length stack) → Begun code entries (around code p)
      → Begun code entries (c.1.loop ∷ around code (p + 1))
      → (stack' slots' : List ℤ) (outs' : List Value) → length stack' ≡ after (length stack) (LoopNext slot high to)
      → length slots' ≡ slots# → length outs' ≡ outs# → P to stack' slots' outs'
  returns P m p slot to high stack slots outs again is c ls lo reached begun open' stack' slots' outs' h1 h2 h3 =
      let l = c.1.loop in
      let k = open'.0.1 in
      let opens = c.1.opens in
      let back = c.1.back in
      let there : Member (forward_successors l.start (Some (LoopStart l.slot l.low l.high l.exit))) to =
      inr (inl (sym back)) in
      let level' =
      level.same m open'.0.0 p l.start (length stack) k to (LoopNext slot high to)
      (LoopStart l.slot l.low l.high l.exit) reached is (inl refl) open'.0.2 opens there c.1.before (omega arith) in
      let high' : length stack' ≡ after k (LoopStart l.slot l.low l.high l.exit) = h1 ∙ sym level' in
      let later : l.start < to = omega arith in
      again (suc open'.0.0) to stack' slots' outs' c.1.within h2 h3
      (l.start, k, LoopStart l.slot l.low l.high l.exit, open'.0.2, opens, omega arith, there, later, high')
      (subst (Begun code entries) (sym c.1.same) begun)

  leads_to : (P : Holds) (m p : ℕ) (i : Instr) (stack slots : List ℤ) (outs : List Value) → Going P
      → slice_get code p ≡ Some i → Nests code p i → length slots ≡ slots# → length outs ≡ outs#
      → Reaches code entries m p (length stack) → Begun code entries (around code p)
      → Wants P p (length stack) slots outs i
  leads_to P m p (Jump to) stack slots outs again is nests ls lo reached begun q way stack' slots' outs' h1 h2 h3 =
      ⊎_elim (λ e. subst (λ q. P q stack' slots' outs') e
      (further P m p to (length stack) (Jump to) again is reached (inl refl) nests.within
      (subst (Begun code entries) (sym nests.same) begun) stack' slots' outs' h1 (h2 ∙ ls) (h3 ∙ lo)))
      (λ no'. absurd no') way
  leads_to P m p (JumpZero to) stack slots outs again is nests ls lo reached begun q way stack' slots' outs' h1 h2 h3 =
      ⊎_elim (λ e. subst (λ q. P q stack' slots' outs') e
      (further P m p to (length stack) (JumpZero to) again is reached (inl refl) nests.0.within
      (subst (Begun code entries) (sym nests.0.same) begun) stack' slots' outs' h1 (h2 ∙ ls) (h3 ∙ lo)))
      (λ w. ⊎_elim (λ e. subst (λ q. P q stack' slots' outs') e
      (further P m p (p + 1) (length stack) (JumpZero to) again is reached (inr (inl refl))
      nests.1.within (subst (Begun code entries) (sym nests.1.same) begun) stack' slots' outs' h1
      (h2 ∙ ls) (h3 ∙ lo))) (λ no'. absurd no') w) way
  leads_to P m p (LoopStart slot low high exit) stack slots outs again is nests ls lo reached begun q way stack' slots'
      outs' h1 h2 h3 =
      ⊎_elim (λ e. subst (λ q. P q stack' slots' outs') e
      (further P m p exit (length stack) (LoopStart slot low high exit) again is reached (inl refl) nests.0.within
      (subst (Begun code entries) (sym nests.0.same) begun) stack' slots' outs' h1 (h2 ∙ ls) (h3 ∙ lo)))
      (λ w. ⊎_elim (λ e. subst (λ q. P q stack' slots' outs') e
      (further P m p (p + 1) (length stack) (LoopStart slot low high exit) again is reached
      (inr (inl refl)) nests.1
      (subst (Begun code entries) (sym nests.2.inside) (
        (
          m,
          length stack,
          subst (λ k. Reaches code entries m k (length stack))
              (sym nests.2.start) reached,
        ),
        begun,
      )) stack' slots' outs' h1 (h2 ∙ ls) (h3 ∙ lo)))
      (λ no'. absurd no') w) way
  leads_to P m p (LoopNext slot high to) stack slots outs again is nests ls lo reached begun q way stack' slots'
      outs' h1 h2 h3 =
      let c = nests.1 in let open' = subst (Begun code entries) c.inside begun in
      ⊎_elim (λ e. subst (λ q. P q stack' slots' outs') e
      (returns P m p slot to high stack slots outs again is nests ls lo reached begun open' stack' slots' outs'
      h1 (h2 ∙ ls) (h3 ∙ lo)))
      (λ w. ⊎_elim (λ e. subst (λ q. P q stack' slots' outs') e
      (further P m p (p + 1) (length stack) (LoopNext slot high to) again is reached (inl refl)
      nests.0 open'.1 stack' slots' outs' h1 (h2 ∙ ls) (h3 ∙ lo))) (λ no'. absurd no') w) way
  leads_to P m p (End state) stack slots outs again is nests ls lo reached begun q way stack' slots' outs' h1 h2
      h3 = absurd way
  leads_to P m p (Store x) stack slots outs again is nests ls lo reached begun q way stack' slots' outs' h1 h2 h3 =
      ⊎_elim (λ e. subst (λ q. P q stack' slots' outs') e
      (further P m p (p + 1) (length stack) (Store x) again is reached (inl refl) nests.0.within
      (subst (Begun code entries) (sym nests.0.same) begun) stack' slots' outs' h1 (h2 ∙ ls) (h3 ∙ lo)))
      (λ no'. absurd no') way
  leads_to P m p other stack slots outs again is nests ls lo reached begun q way stack' slots' outs' h1 h2 h3 =
      ⊎_elim (λ e. subst (λ q. P q stack' slots' outs') e
      (further P m p (p + 1) (length stack) other again is reached (inl refl) nests.within
      (subst (Begun code entries) (sym nests.same) begun) stack' slots' outs' h1 (h2 ∙ ls) (h3 ∙ lo)))
      (λ no'. absurd no') way

  stands : (P : Holds) (m p : ℕ) (i : Instr) (stack slots : List ℤ) (outs : List Value) → Going P
      → slice_get code p ≡ Some i → length slots ≡ slots# → length outs ≡ outs#
      → Reaches code entries m p (length stack) → Begun code entries (around code p)
      → Fine P (step (Some i) s p stack slots outs)
  stands P m p i stack slots outs again is ls lo reached begun =
      step_fine P s i p stack slots outs (level.enough m p (length stack) i reached is)
      (subst (λ k. FindsSlotsAndPorts k (length s.held) (length outs) i) (sym ls)
      (subst (λ k. FindsSlotsAndPorts slots# (length s.held) k i) (sym lo) (fed.each p i is))) eq
      (leads_to P m p i stack slots outs again is (nested.each p i is) ls lo reached begun)

  goes_on : (n m p : ℕ) (o : Option Instr) (stack slots : List ℤ) (outs : List Value)
      → Going (λ q stack slots outs. IsNotStuck (run code s n q stack slots outs)) → slice_get code p ≡ o
      → p < length code
      → length slots ≡ slots# → length outs ≡ outs# → Reaches code entries m p (length stack)
      → Begun code entries (around code p)
      → IsNotStuck (then_run (step o s p stack slots outs) (run code s n))
  goes_on n m p None stack slots outs again is within ls lo reached begun = absurd (none_within code p is within)
  goes_on n m p (Some i) stack slots outs again is within ls lo reached begun =
      fine_goes (run code s n) (step (Some i) s p stack slots outs)
      (stands (λ q stack slots outs. IsNotStuck (run code s n q stack slots outs)) m p i stack slots outs again is ls lo
      reached begun)

  pub never_stuck : (n : ℕ) → Going (λ q stack slots outs. IsNotStuck (run code s n q stack slots outs))
  never_stuck zero m p stack slots outs within ls lo reached begun = tt
  never_stuck (suc n) m p stack slots outs within ls lo reached begun =
      goes_on n m p (slice_get code p) stack slots outs (never_stuck n) refl within ls lo reached begun

  pub stands_on : (p : ℕ) (i : Instr) (stack slots : List ℤ) (outs : List Value) → slice_get code p ≡ Some i
      → Stands code entries slots# outs# p stack slots outs
      → Fine (Stands code entries slots# outs#) (step (Some i) s p stack slots outs)
  stands_on p i stack slots outs is st =
      stands (Stands code entries slots# outs#) st.steps p i stack slots outs
      (λ m p stack slots outs within ls lo reached begun.
      record { within = within; slots_are = ls; outs_are = lo; steps = m; reached = reached; begun = begun })
      is st.slots_are st.outs_are st.reached st.begun
