-- The frame that a step of verified code leaves fits the code as the one before did.
use Rattle.std.proofs.Common.{◌≡◌, ◌∙◌, ℕ, zero, suc, ◌+◌, ℤ, pos, ◌+ℤ◌, Bool, true, false, if◌then◌else◌, List, []}
use Rattle.std.proofs.Common.{◌∷◌, length, take, replicate, Option, Some, None, refl, sym, ap, subst, arith}
use Rattle.std.proofs.Common.{length-append}
use Rattle.std.specs.Prelude.{slice_get, int_lt, Result, Ok, Err}
use Rattle.std.proofs.lemmas.List.{length-set, length-replicate, length-take-le}
use Rattle.std.proofs.lemmas.Bool.{not-false}
use Rattle.pals_base.specs.declared.basic_types.Trap.{Trap}
use Rattle.pals_base.specs.declared.frames.Frame.{Frame}
use Rattle.pals_base.specs.declared.basic_types.PortValue.{PortValue as Value}
use Rattle.pals_base.specs.declared.behaviour.Op.{Op}
use Rattle.pals_base.specs.declared.behaviour.Op.TheVariants as op
use Rattle.pals_base.specs.Arithmetic.{negation_of, magnitude_of}
use Rattle.pals_base.specs.ExpressionValues.{is_true, applied}
use Rattle.pals_base.specs.SingleStep.{Fired, holding}
use Rattle.step_code.specs.declared.instr.Instr.{Instr}
use Rattle.step_code.specs.declared.instr.Instr.TheVariants.{Push, Load, Store, Port, Fresh, Neg, Abs, Not, Add, Sub}
use Rattle.step_code.specs.declared.instr.Instr.TheVariants.{Mul, Quot, Mod, Rem, Eq, Ne, Lt, Le, Gt, Ge, And, Or, Xor}
use Rattle.step_code.specs.declared.instr.Instr.TheVariants.{Jump, JumpZero, LoopStart, LoopNext, Emit, End}
use Rattle.step_code.specs.declared.instr.CodeParts.{CodeParts}
use Rattle.step_code.specs.InstructionEffects.{Next, Goes, Ends, Traps, Sticks, StepInputs, on_top, on_found, on_result}
use Rattle.step_code.specs.InstructionEffects.{on_two, step}
use Rattle.step_code.specs.proof.CodeRuns.{CodeOutcome, Ended, Trapped, Stuck, Unfinished, then_run, run, what_is_left}
use Rattle.step_code.specs.proof.CodeRuns.{from_entry}
use Rattle.step_code.specs.proof.CodeRuns.{unless_halted, exec, Leaves, has_entry, FitsCode}
use Rattle.step_code.specs.InstructionsPerStep.{silent, step_inputs, slots_of}
use Rattle.step_code.specs.proof.VerifierRules.{finds, misses_slot, on_some, BadSlot, IsVerified}
use Rattle.step_code.proofs.FaultlessInstructions.{untrue}
use Rattle.step_code.proofs.StepResults.{length-holding, begins}

-- the slots stay as many, and only an End ends the step
abbrev Keeps : ℕ → Option Instr → Next → Type 0
Keeps n i (Goes q stack slots outs) = length slots ≡ n
Keeps n i (Ends state slots outs) = (i ≡ Some (End state)) × (length slots ≡ n)
Keeps n i (Traps trap) = Unit {0}
Keeps n i Sticks = Unit {0}

top_keeps : (n : ℕ) (i : Option Instr) (stack : List ℤ) (go : ℤ → List ℤ → Next)
    → ((v : ℤ) (rest : List ℤ) → Keeps n i (go v rest)) → Keeps n i (on_top stack go)
top_keeps n i [] go h = tt
top_keeps n i (v ∷ rest) go h = h v rest

found_keeps : {A : Type 0} (n : ℕ) (i : Option Instr) (o : Option A) (go : A → Next) → ((x : A) → Keeps n i (go x))
    → Keeps n i (on_found o go)
found_keeps n i None go h = tt
found_keeps n i (Some x) go h = h x

result_keeps : (n : ℕ) (i : Option Instr) (r : Result ℤ Trap) (go : ℤ → Next) → ((v : ℤ) → Keeps n i (go v))
    → Keeps n i (on_result r go)
result_keeps n i (Ok v) go h = h v
result_keeps n i (Err trap) go h = tt

if_keeps : (n : ℕ) (i : Option Instr) (b : Bool) (x y : Next) → Keeps n i x → Keeps n i y
    → Keeps n i (if b then x else y)
if_keeps n i true x y h k = h
if_keeps n i false x y h k = k

two_keeps : (i : Option Instr) (o : Op) (p : ℕ) (stack slots : List ℤ) (outs : List Value)
    → Keeps (length slots) i (on_two o p stack slots outs)
two_keeps i o p stack slots outs =
    top_keeps (length slots) i stack _
    (λ b below. top_keeps (length slots) i below _
    (λ a rest. result_keeps (length slots) i (applied o a b) _ (λ v. refl)))

step_keeps : (s : StepInputs) (i : Instr) (p : ℕ) (stack slots : List ℤ) (outs : List Value)
    → Keeps (length slots) (Some i) (step (Some i) s p stack slots outs)
step_keeps s (Push v) p stack slots outs = refl
step_keeps s (Load x) p stack slots outs = found_keeps (length slots) (Some (Load x)) (slice_get slots x) _ (λ v. refl)
step_keeps s (Store x) p stack slots outs =
    found_keeps (length slots) (Some (Store x)) (slice_get slots x) _
    (λ b. top_keeps (length slots) (Some (Store x)) stack _ (λ v rest. length-set slots x v))
step_keeps s (Port x) p stack slots outs = found_keeps (length slots) (Some (Port x)) (slice_get s.held x) _ (λ v. refl)
step_keeps s (Fresh x) p stack slots outs =
    found_keeps (length slots) (Some (Fresh x)) (slice_get s.fresh x) _ (λ v. refl)
step_keeps s Neg p stack slots outs =
    top_keeps (length slots) (Some Neg) stack _
    (λ a rest. result_keeps (length slots) (Some Neg) (negation_of a) _ (λ v. refl))
step_keeps s Abs p stack slots outs =
    top_keeps (length slots) (Some Abs) stack _
    (λ a rest. result_keeps (length slots) (Some Abs) (magnitude_of a) _ (λ v. refl))
step_keeps s Not p stack slots outs = top_keeps (length slots) (Some Not) stack _ (λ a rest. refl)
step_keeps s Add p stack slots outs = two_keeps (Some Add) op.Add p stack slots outs
step_keeps s Sub p stack slots outs = two_keeps (Some Sub) op.Sub p stack slots outs
step_keeps s Mul p stack slots outs = two_keeps (Some Mul) op.Mul p stack slots outs
step_keeps s Quot p stack slots outs = two_keeps (Some Quot) op.Quot p stack slots outs
step_keeps s Mod p stack slots outs = two_keeps (Some Mod) op.Mod p stack slots outs
step_keeps s Rem p stack slots outs = two_keeps (Some Rem) op.Rem p stack slots outs
step_keeps s Eq p stack slots outs = two_keeps (Some Eq) op.Eq p stack slots outs
step_keeps s Ne p stack slots outs = two_keeps (Some Ne) op.Ne p stack slots outs
step_keeps s Lt p stack slots outs = two_keeps (Some Lt) op.Lt p stack slots outs
step_keeps s Le p stack slots outs = two_keeps (Some Le) op.Le p stack slots outs
step_keeps s Gt p stack slots outs = two_keeps (Some Gt) op.Gt p stack slots outs
step_keeps s Ge p stack slots outs = two_keeps (Some Ge) op.Ge p stack slots outs
step_keeps s And p stack slots outs = two_keeps (Some And) op.And p stack slots outs
step_keeps s Or p stack slots outs = two_keeps (Some Or) op.Or p stack slots outs
step_keeps s Xor p stack slots outs = two_keeps (Some Xor) op.Xor p stack slots outs
step_keeps s (Jump to) p stack slots outs = refl
step_keeps s (JumpZero to) p stack slots outs =
    top_keeps (length slots) (Some (JumpZero to)) stack _
    (λ v rest. if_keeps (length slots) (Some (JumpZero to)) (is_true v) _ _ refl refl)
step_keeps s (LoopStart slot low high exit) p stack slots outs =
    let i = Some (LoopStart slot low high exit) in
    if_keeps (length slots) i (int_lt high low) _ _ refl
    (found_keeps (length slots) i (slice_get slots slot) _ (λ v. length-set slots slot low))
step_keeps s (LoopNext slot high to) p stack slots outs =
    let i = Some (LoopNext slot high to) in
    found_keeps (length slots) i (slice_get slots slot) _
    (λ v. if_keeps (length slots) i (int_lt v high) _ _ (length-set slots slot (v +ℤ pos 1)) refl)
step_keeps s (Emit x) p stack slots outs =
    found_keeps (length slots) (Some (Emit x)) (slice_get outs x) _
    (λ b. top_keeps (length slots) (Some (Emit x)) stack _ (λ v rest. refl))
step_keeps s (End state) p stack slots outs = (refl, refl)

-- ---- runs
pub record EndsAt (code : List Instr) (n state : ℕ) (slots : List ℤ) : Type 0 where
  pub place : ℕ
  pub here : slice_get code place ≡ Some (End state)
  pub size : length slots ≡ n

ends_by : (code : List Instr) (n p state : ℕ) (rest : ℕ → List ℤ → List ℤ → List Value → CodeOutcome) (i : Option Instr)
    (next : Next) (slots' : List ℤ) (outs' : List Value) → slice_get code p ≡ i → Keeps n i next
    → ((q : ℕ) (stack slots : List ℤ) (outs : List Value) → length slots ≡ n
    → rest q stack slots outs ≡ Ended state slots' outs' → EndsAt code n state slots')
    → then_run next rest ≡ Ended state slots' outs' → EndsAt code n state slots'
ends_by code n p state rest i (Goes q stack slots outs) slots' outs' is keeps again ended =
    again q stack slots outs keeps ended
ends_by code n p state rest i (Ends t slots outs) slots' outs' is keeps again ended =
    let same : t ≡ state = cc in
    let left' : slots ≡ slots' = cc in
    record { place = p; here = is ∙ keeps.0 ∙ ap (λ x. Some (End x)) same; size = ap length (sym left') ∙ keeps.1 }
ends_by code n p state rest i (Traps trap) slots' outs' is keeps again ended = cc
ends_by code n p state rest i Sticks slots' outs' is keeps again ended = cc

any_keeps : (s : StepInputs) (i : Option Instr) (p : ℕ) (stack slots : List ℤ) (outs : List Value)
    → Keeps (length slots) i (step i s p stack slots outs)
any_keeps s None p stack slots outs = tt
any_keeps s (Some i) p stack slots outs = step_keeps s i p stack slots outs

ends_at : (code : List Instr) (s : StepInputs) (m n p state : ℕ) (stack slots slots' : List ℤ) (outs outs' : List Value)
    → length slots ≡ n → run code s m p stack slots outs ≡ Ended state slots' outs' → EndsAt code n state slots'
ends_at code s zero n p state stack slots slots' outs outs' size ended = cc
ends_at code s (suc m) n p state stack slots slots' outs outs' size ended =
    ends_by code n p state (run code s m) (slice_get code p) (step (slice_get code p) s p stack slots outs)
    slots' outs' refl
    (subst (λ k. Keeps k (slice_get code p) (step (slice_get code p) s p stack slots outs)) size
    (any_keeps s (slice_get code p) p stack slots outs))
    (λ q st sl o size' ended'. ends_at code s m n q state st sl slots' o outs' size' ended') ended

-- ---- steps
entered : (c : CodeParts) (p state : ℕ) → IsVerified c → slice_get c.instrs p ≡ Some (End state)
    → has_entry (slice_get c.entries state) ≡ true
entered c p state v here =
    not-false (has_entry (slice_get c.entries state))
    (ap (λ o. on_some o (misses_slot c p)) (sym here) ∙ untrue (finds c (misses_slot c p) p) (v.clean p BadSlot))

ended_fits : (c : CodeParts) (held : Frame) (o : CodeOutcome) (f : Fired) → IsVerified c → FitsCode c held
    → ((state : ℕ) (slots : List ℤ) (outs : List Value) → o ≡ Ended state slots outs
    → EndsAt c.instrs (c.vars + c.loops) state slots) → what_is_left c held o ≡ Leaves f → FitsCode c f.frame
ended_fits c held (Ended state slots outs) f v fits ends is =
    let e = ends state slots outs refl in
    let size = e.size in
    let same : record held { state = state; vars = take c.vars slots } ≡ f.frame = cc in
    subst (FitsCode c) same (record {
      entry = entered c e.place state v e.here;
      vars = length-take-le c.vars slots (omega arith);
      held = fits.held;
    })
ended_fits c held (Trapped trap) f v fits ends is =
    let same : record held { halt = Some trap } ≡ f.frame = cc in
    subst (FitsCode c) same (record { entry = fits.entry; vars = fits.vars; held = fits.held })
ended_fits c held Stuck f v fits ends is = cc
ended_fits c held Unfinished f v fits ends is = cc

halted_fits : (c : CodeParts) (held : Frame) (halt : Option Trap) (o : CodeOutcome) (f : Fired) → FitsCode c held
    → (what_is_left c held o ≡ Leaves f → FitsCode c f.frame) → unless_halted c held halt o ≡ Leaves f
    → FitsCode c f.frame
halted_fits c held None o f fits going is = going is
halted_fits c held (Some trap) o f fits going is = let same : held ≡ f.frame = cc in subst (FitsCode c) same fits

pub frame_fits : (c : CodeParts) (frame : Frame) (inputs : List Value) (f : Fired) → IsVerified c → FitsCode c frame
    → exec c frame inputs ≡ Leaves f → FitsCode c f.frame
frame_fits c frame inputs f v fits is =
    let held : Frame = record frame { held = holding frame.held inputs } in
    let fits' : FitsCode c held =
    record { entry = fits.entry; vars = fits.vars; held = length-holding frame.held inputs ∙ fits.held } in
    let b = begins c frame fits in
    let size : length (slots_of c held.vars) ≡ c.vars + c.loops =
    (let n = fits.vars in omega
    (arith, length-append held.vars (replicate c.loops (pos 0)), length-replicate c.loops (pos 0))) in
    halted_fits c held frame.halt (from_entry c held inputs (slice_get c.entries frame.state)) f fits'
    (λ leaves.
    ended_fits c held (from_entry c held inputs (slice_get c.entries frame.state)) f v fits'
    (λ state slots outs ended.
    ends_at c.instrs (step_inputs held.held inputs) _ (c.vars + c.loops) b.0 state [] (slots_of c held.vars) slots
    (silent c)
    outs size (ap (from_entry c held inputs) (sym b.1.is) ∙ ended)) leaves) is
