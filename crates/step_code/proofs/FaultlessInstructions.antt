-- What holds of an instruction at which no rule of the verifier finds anything.
use Rattle.std.proofs.Common.{◌≡◌, ◌∙◌, ℕ, ◌<◌, Bool, true, false, ◌&&◌, ◌||◌, IsTrue, List, length, Some, refl, sym}
use Rattle.std.proofs.Common.{ap, nat_lt}
use Rattle.std.specs.Prelude.{not, slice_get}
use Rattle.std.proofs.lemmas.Bool.{and_parts, ltb-true, not-false}
use Rattle.list_lemmas.proofs.Booleans.{or_false_left, or_false_right}
use Rattle.step_code.specs.declared.instr.Instr.{Instr}
use Rattle.step_code.specs.declared.instr.Instr.TheVariants.{LoopStart}
use Rattle.step_code.specs.declared.instr.CodeParts.{CodeParts}
use Rattle.step_code.specs.proof.VerifierRules.{stays, strays, jumps_badly, jumps_back, misses_slot, is_bad_entry}
use Rattle.step_code.specs.proof.VerifierRules.{on_some, finds, Rule, BadJump, BackJump, BadSlot, Finds, IsCleanBelow}
use Rattle.step_code.proofs.NestingOfCleanCode.{loop_is}
use Rattle.step_code.proofs.LoopCrossings.{AreClosed, not_le}

pub untrue : (b : Bool) → ¬ IsTrue b → b ≡ false
untrue true none = absurd (none refl)
untrue false none = refl

-- an instruction at which no rule finds a fault
pub record IsSound (c : CodeParts) (p : ℕ) (i : Instr) : Type 0 where
  pub jumps : jumps_badly c.instrs p i ≡ false
  pub forward : jumps_back c.instrs p i ≡ false
  pub slots : misses_slot c p i ≡ false

pub is_sound : (c : CodeParts) (p : ℕ) (i : Instr) → ((r : Rule) → ¬ Finds c r p) → slice_get c.instrs p ≡ Some i
    → IsSound c p i
is_sound c p i none is =
    let here : (test : Instr → Bool) → finds c test p ≡ test i = λ test. ap (λ o. on_some o test) is in
    record {
      jumps =
          sym (here (jumps_badly c.instrs p))
          ∙ or_false_right (is_bad_entry c.instrs c.entries p) (finds c (jumps_badly c.instrs p) p)
          (untrue (is_bad_entry c.instrs c.entries p || finds c (jumps_badly c.instrs p) p) (none BadJump));
      forward = sym (here (jumps_back c.instrs p)) ∙ untrue (finds c (jumps_back c.instrs p) p) (none BackJump);
      slots = sym (here (misses_slot c p)) ∙ untrue (finds c (misses_slot c p) p) (none BadSlot);
    }

-- a jump that does not stray
pub record GoesWell (code : List Instr) (p to : ℕ) : Type 0 where
  pub there : to < length code
  pub within : stays code p to ≡ true

pub goes_well : (code : List Instr) (p to : ℕ) → strays code p to ≡ false → GoesWell code p to
goes_well code p to is =
    let both =
    and_parts (nat_lt to (length code)) (stays code p to)
    (not-false (nat_lt to (length code) && stays code p to) is) in
    record { there = ltb-true to (length code) both.0; within = both.1 }

pub clean_closed : (c : CodeParts) (p : ℕ) → IsCleanBelow c p → AreClosed c.instrs p
clean_closed c p clean = record {
  each = λ k l less at.
      let i = LoopStart l.slot l.low l.high l.exit in
      let sound = is_sound c k i (λ r. clean.none k r less) (loop_is c.instrs k l at).opens in
      let well = goes_well c.instrs k l.exit (or_false_left (strays c.instrs k l.exit) _ sound.jumps) in
      (well.within, not_le k l.exit (or_false_left (not (nat_lt k l.exit)) _ sound.forward));
}
