-- A run that is over stays the same when more instructions are allowed, and so does the number that it has made.
use Rattle.std.proofs.Common.{◌≡◌, ◌∙◌, ℕ, zero, suc, ◌+◌, ◌<◌, ℤ, List, refl, sym, ap, subst, arith}
use Rattle.std.specs.Prelude.{slice_get}
use Rattle.pals_base.specs.declared.basic_types.PortValue.{PortValue as Value}
use Rattle.step_code.specs.declared.instr.Instr.{Instr}
use Rattle.step_code.specs.InstructionEffects.{Next, Goes, Ends, Traps, Sticks, StepInputs, step}
use Rattle.step_code.specs.proof.CodeRuns.{then_run, run, IsOver}
use Rattle.step_code.specs.InstructionsPerStep.{then_count, count}

abbrev Same : List Instr → StepInputs → ℕ → ℕ → List ℤ → List ℤ → List Value → Type 0
Same code s m p stack slots outs =
    IsOver (run code s m p stack slots outs)
    → (run code s (suc m) p stack slots outs ≡ run code s m p stack slots outs)
    × (count code s (suc m) p stack slots outs ≡ count code s m p stack slots outs)

by_next : (code : List Instr) (s : StepInputs) (m : ℕ) (next : Next)
    → ((p : ℕ) (stack slots : List ℤ) (outs : List Value) → Same code s m p stack slots outs)
    → IsOver (then_run next (run code s m))
    → (then_run next (run code s (suc m)) ≡ then_run next (run code s m))
    × (suc (then_count next (count code s (suc m))) ≡ suc (then_count next (count code s m)))
by_next code s m (Goes p stack slots outs) again over = let a = again p stack slots outs over in (a.0, ap suc a.1)
by_next code s m (Ends state slots outs) again over = (refl, refl)
by_next code s m (Traps trap) again over = (refl, refl)
by_next code s m Sticks again over = (refl, refl)

pub one_more : (code : List Instr) (s : StepInputs) (m p : ℕ) (stack slots : List ℤ) (outs : List Value)
    → Same code s m p stack slots outs
one_more code s zero p stack slots outs over = absurd over
one_more code s (suc m) p stack slots outs over =
    by_next code s m (step (slice_get code p) s p stack slots outs) (λ q st sl o. one_more code s m q st sl o) over

-- more instructions change nothing of a run that is over
pub longer : (code : List Instr) (s : StepInputs) (k m p : ℕ) (stack slots : List ℤ) (outs : List Value)
    → IsOver (run code s m p stack slots outs) → run code s (m + k) p stack slots outs ≡ run code s m p stack slots outs
longer code s zero m p stack slots outs over = ap (λ n. run code s n p stack slots outs) (omega arith)
longer code s (suc k) m p stack slots outs over =
    let e : m + suc k ≡ suc (m + k) = omega arith in
    let before = longer code s k m p stack slots outs over in
    ap (λ n. run code s n p stack slots outs) e
    ∙ (one_more code s (m + k) p stack slots outs (subst IsOver (sym before) over)).0 ∙ before

-- the step of a machine whose loop preserves the result of a run of n: the result stays, with one instruction fewer
pub record Moves (code : List Instr) (s : StepInputs) (n p q : ℕ) (stack slots stack' slots' : List ℤ)
    (outs outs' : List Value) : Type 0 where
  pub same : run code s n q stack' slots' outs' ≡ run code s n p stack slots outs
  pub fewer : count code s n q stack' slots' outs' < count code s n p stack slots outs

pub moves : (code : List Instr) (s : StepInputs) (n p q : ℕ) (stack slots stack' slots' : List ℤ)
    (outs outs' : List Value)
    → IsOver (run code s n p stack slots outs)
    → step (slice_get code p) s p stack slots outs ≡ Goes q stack' slots' outs'
    → Moves code s n p q stack slots stack' slots' outs outs'
moves code s zero p q stack slots stack' slots' outs outs' over is = absurd over
moves code s (suc m) p q stack slots stack' slots' outs outs' over is =
    let here = ap (λ n. then_run n (run code s m)) is in
    let left = ap (λ n. suc (then_count n (count code s m))) is in
    let more = one_more code s m q stack' slots' outs' (subst IsOver here over) in
    let e = more.1 in
    record { same = more.0 ∙ sym here; fewer = omega arith }
