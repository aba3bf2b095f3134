-- What holds at each place and entry of verified code: loops closed, instructions known, entries good.
use Rattle.std.proofs.Common.{◌≡◌, ◌∙◌, ℕ, ◌<◌, true, false, ◌&&◌, ◌||◌, List, [], ◌∷◌, length, Option, Some, refl, ap}
use Rattle.std.proofs.Common.{⊎_elim, nat_eq, nat_lt}
use Rattle.std.specs.Prelude.{slice_get}
use Rattle.std.proofs.lemmas.Bool.{and_parts, ltb-true, false≢true, or_right, not-false}
use Rattle.list_lemmas.proofs.Booleans.{or_false_left, and_second_false}
use Rattle.list_lemmas.proofs.Numbers.{nat_eq-self}
use Rattle.step_code.specs.declared.instr.Instr.{Instr}
use Rattle.step_code.specs.declared.instr.CodeParts.{CodeParts}
use Rattle.step_code.specs.declared.loops.LoopSpan.{LoopSpan}
use Rattle.step_code.specs.Loops.{around}
use Rattle.step_code.specs.proof.StackHeights.{Member}
use Rattle.step_code.specs.proof.VerifierRules.{is_none, enters_badly, is_entry, is_bad_entry, on_some, finds}
use Rattle.step_code.specs.proof.VerifierRules.{jumps_badly, BadJump, IsVerified}
use Rattle.step_code.proofs.FaultlessInstructions.{untrue, is_sound, clean_closed}
use Rattle.step_code.proofs.LoopCrossings.{AreClosed}
use Rattle.step_code.proofs.CheckedPlaces.{IsKnown}

pub verified_closed : (c : CodeParts) (p : ℕ) → IsVerified c → AreClosed c.instrs p
verified_closed c p v = clean_closed c p (record { none = λ q r less. v.clean q r })

good_entry : (c : CodeParts) (p : ℕ) → IsVerified c → is_bad_entry c.instrs c.entries p ≡ false
good_entry c p v =
    or_false_left (is_bad_entry c.instrs c.entries p) (finds c (jumps_badly c.instrs p) p)
    (untrue (is_bad_entry c.instrs c.entries p || finds c (jumps_badly c.instrs p) p) (v.clean p BadJump))

pub verified_known : (c : CodeParts) (p : ℕ) (i : Instr) → IsVerified c → slice_get c.instrs p ≡ Some i → IsKnown c p i
verified_known c p i v here = record { here = here; entry = good_entry c p v; sound = is_sound c p i (v.clean p) here }

-- ---- entries

member_entry : (entries : List (Option ℕ)) (e : ℕ) → Member entries (Some e) → is_entry entries e ≡ true
member_entry [] e among = absurd among
member_entry (x ∷ entries) e among =
    ⊎_elim
    (λ (is : x ≡ Some e). ap (λ o. on_some o (nat_eq e) || is_entry entries e) is
    ∙ ap (λ b. b || is_entry entries e) (nat_eq-self e))
    (λ later. or_right (on_some x (nat_eq e)) (is_entry entries e) (member_entry entries e later))
    among

pub record EntersWell (code : List Instr) (e : ℕ) : Type 0 where
  pub there : e < length code
  pub outside : around code e ≡ []

none_is : (ls : List LoopSpan) → is_none ls ≡ true → ls ≡ []
none_is [] is = refl
none_is (l ∷ ls) is = absurd (false≢true is)

pub verified_entry : (c : CodeParts) (e : ℕ) → IsVerified c → Member c.entries (Some e) → EntersWell c.instrs e
verified_entry c e v among =
    let bad =
    and_second_false (is_entry c.entries e) (enters_badly c.instrs e) (member_entry c.entries e among)
    (good_entry c e v) in
    let both =
    and_parts (nat_lt e (length c.instrs)) (is_none (around c.instrs e))
    (not-false (nat_lt e (length c.instrs) && is_none (around c.instrs e)) bad) in
    record { there = ltb-true e (length c.instrs) both.0; outside = none_is (around c.instrs e) both.1 }
