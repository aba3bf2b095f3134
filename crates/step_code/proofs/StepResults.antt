-- Each step of verified code leaves a frame and outputs: its run is over, and it is not stuck.
use Rattle.std.proofs.Common.{◌≡◌, ◌∙◌, inl, inr, ℕ, zero, suc, ◌+◌, ◌≤◌, ℤ, pos, true, List, [], ◌∷◌, length, map}
use Rattle.std.proofs.Common.{replicate, Option, Some, None, refl, sym, ap, subst, ⊎_elim, arith, length-append}
use Rattle.std.specs.Prelude.{slice_get}
use Rattle.std.proofs.lemmas.List.{length-map, length-replicate}
use Rattle.pals_base.specs.declared.basic_types.Trap.{Trap}
use Rattle.pals_base.specs.declared.frames.Frame.{Frame}
use Rattle.pals_base.specs.declared.basic_types.PortValue.{PortValue as Value}
use Rattle.pals_base.specs.declared.basic_types.PortValue.TheVariants.{Absent}
use Rattle.pals_base.specs.SingleStep.{Fired, holding, is_present}
use Rattle.step_code.specs.declared.instr.Instr.{Instr}
use Rattle.step_code.specs.declared.instr.CodeParts.{CodeParts}
use Rattle.step_code.specs.Loops.{around}
use Rattle.step_code.specs.SuccessorsAndWeights.{heaviest, entry_weight, weight}
use Rattle.step_code.specs.proof.CodeRuns.{CodeOutcome, Ended, Trapped, Stuck, Unfinished, what_is_left, run_from}
use Rattle.step_code.specs.proof.CodeRuns.{from_entry}
use Rattle.step_code.specs.proof.CodeRuns.{unless_halted, exec, Leaves, has_entry, FitsCode, HasCodeSizes, IsOver}
use Rattle.step_code.specs.InstructionsPerStep.{silent, step_inputs, slots_of}
use Rattle.step_code.specs.proof.StackHeights.{Member}
use Rattle.step_code.specs.proof.VerifierRules.{IsVerified}
use Rattle.step_code.specs.proof.StuckFreedomConditions.{HasSlotsAndPorts, IsNotStuck}
use Rattle.step_code.proofs.RunsWithinWeight.{ends_within}
use Rattle.step_code.proofs.StuckFreedom.{Begun, never_stuck}
use Rattle.step_code.proofs.VerifiedInstructionsAndEntries.{verified_entry}
use Rattle.step_code.proofs.VerifiedPremises.{verified_nested, verified_fed, verified_level}

-- ---- lengths
pub length-holding : (held : List ℤ) (inputs : List Value) → length (holding held inputs) ≡ length held
length-holding [] inputs = refl
length-holding (v ∷ held) [] = refl
length-holding (v ∷ held) (input ∷ inputs) = ap suc (length-holding held inputs)

-- ---- entries
pub member_at : {A : Type 0} (xs : List A) (k : ℕ) (x : A) → slice_get xs k ≡ Some x → Member xs x
member_at [] k x is = cc
member_at (y ∷ xs) zero x is = inl (let e : y ≡ x = cc in e)
member_at (y ∷ xs) (suc k) x is = inr (member_at xs k x is)

pub entry_within : (code : List Instr) (entries : List (Option ℕ)) (e : ℕ) → Member entries (Some e)
    → heaviest code (length code) e ≤ weight code entries
entry_within code [] e among = absurd among
entry_within code (x ∷ entries) e among =
    ⊎_elim
    (λ (is : x ≡ Some e). let same = ap (entry_weight code) is in omega arith)
    (λ later. let less = entry_within code entries e later in omega arith)
    among

-- ---- where a step begins
pub record Begins (c : CodeParts) (frame : Frame) (e : ℕ) : Type 0 where
  pub among : Member c.entries (Some e)
  pub is : slice_get c.entries frame.state ≡ Some (Some e)

begins_by : (c : CodeParts) (frame : Frame) (o : Option (Option ℕ)) → slice_get c.entries frame.state ≡ o
    → has_entry o ≡ true → (e : ℕ) × Begins c frame e
begins_by c frame None is has = cc
begins_by c frame (Some None) is has = cc
begins_by c frame (Some (Some e)) is has = (e, record { among = member_at c.entries frame.state (Some e) is; is = is })

pub begins : (c : CodeParts) (frame : Frame) → FitsCode c frame → (e : ℕ) × Begins c frame e
begins c frame fits = begins_by c frame (slice_get c.entries frame.state) refl fits.entry

-- the run from an entry is over, and not stuck
pub run_over : (c : CodeParts) (held : Frame) (inputs : List Value) (e : ℕ) → IsVerified c → Member c.entries (Some e)
    → IsOver (run_from c held inputs e)
run_over c held inputs e v among =
    let well = verified_entry c e v among in
    ends_within c.instrs (step_inputs held.held inputs) (weight c.instrs c.entries) e [] (slots_of c held.vars)
    (silent c)
    (verified_nested c v) well.there well.outside (entry_within c.instrs c.entries e among)

pub slots_size : (c : CodeParts) (held : Frame) (inputs : List Value) → HasCodeSizes c held inputs
    → length (slots_of c held.vars) ≡ c.vars + c.loops
slots_size c held inputs z = let n = z.vars in
    omega (arith, length-append held.vars (replicate c.loops (pos 0)), length-replicate c.loops (pos 0))

pub fed_at : (c : CodeParts) (held : Frame) (inputs : List Value) → IsVerified c → HasCodeSizes c held inputs
    → HasSlotsAndPorts c.instrs (c.vars + c.loops) (length held.held) c.outs
fed_at c held inputs v z = subst (λ n. HasSlotsAndPorts c.instrs (c.vars + c.loops) n c.outs) (sym z.ins)
    (verified_fed c v)

pub fresh_size : (c : CodeParts) (held : Frame) (inputs : List Value) → HasCodeSizes c held inputs
    → length (map is_present inputs) ≡ length held.held
fresh_size c held inputs z = let a = z.ins in let b = z.inputs' in omega (arith, length-map inputs is_present)

pub begun_at : (c : CodeParts) (e : ℕ) → IsVerified c → Member c.entries (Some e)
    → Begun c.instrs c.entries (around c.instrs e)
begun_at c e v among = subst (Begun c.instrs c.entries) (sym (verified_entry c e v among).outside) tt

pub run_moves : (c : CodeParts) (held : Frame) (inputs : List Value) (e : ℕ) → IsVerified c → HasCodeSizes c held inputs
    → Member c.entries (Some e) → IsNotStuck (run_from c held inputs e)
run_moves c held inputs e v z among =
    never_stuck c.instrs c.entries (step_inputs held.held inputs) (c.vars + c.loops) c.outs (verified_nested c v)
    (verified_level c v) (fed_at c held inputs v z) (fresh_size c held inputs z) (weight c.instrs c.entries)
    0 e [] (slots_of c held.vars) (silent c) (verified_entry c e v among).there (slots_size c held inputs z)
    (length-replicate c.outs Absent) (among, refl) (begun_at c e v among)

-- ---- a step
leaves_by : (c : CodeParts) (held : Frame) (o : CodeOutcome) → IsOver o → IsNotStuck o
    → (f : Fired) × (what_is_left c held o ≡ Leaves f)
leaves_by c held (Ended state slots outs) over on = (_, refl)
leaves_by c held (Trapped trap) over on = (_, refl)
leaves_by c held Stuck over on = absurd on
leaves_by c held Unfinished over on = absurd over

halted_by : (c : CodeParts) (held : Frame) (halt : Option Trap) (o : CodeOutcome)
    → (f : Fired) × (what_is_left c held o ≡ Leaves f)
    → (f : Fired) × (unless_halted c held halt o ≡ Leaves f)
halted_by c held None o leaves = leaves
halted_by c held (Some trap) o leaves = (_, refl)

pub exec_leaves : (c : CodeParts) (frame : Frame) (inputs : List Value) → IsVerified c → FitsCode c frame
    → length inputs ≡ c.ins → (f : Fired) × (exec c frame inputs ≡ Leaves f)
exec_leaves c frame inputs v fits size =
    let held : Frame = record frame { held = holding frame.held inputs } in
    let b = begins c frame fits in
    let z : HasCodeSizes c held inputs =
    record { vars = fits.vars; ins = length-holding frame.held inputs ∙ fits.held; inputs' = size } in
    let leaves =
    halted_by c held frame.halt (run_from c held inputs b.0)
    (leaves_by c held (run_from c held inputs b.0) (run_over c held inputs b.0 v b.1.among)
    (run_moves c held inputs b.0 v z b.1.among)) in
    (leaves.0, ap (λ o. unless_halted c held frame.halt (from_entry c held inputs o)) b.1.is ∙ leaves.1)
