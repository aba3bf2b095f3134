-- Verified code is nested, level and fed, which the proofs of the laws presuppose.
use Rattle.std.proofs.Common.{◌≡◌, ◌∙◌, ℕ, zero, suc, ◌+◌, ◌<◌, ◌≤◌, true, false, List, [], ◌∷◌, length, Option, Some}
use Rattle.std.proofs.Common.{None, refl, sym, ap, ⊎_elim, arith, nat_eq, nat_lt}
use Rattle.std.specs.Prelude.{ℤ, not, slice_get}
use Rattle.std.proofs.lemmas.Bool.{cases_lt, false≢true, ltb-false, eqb-true, eqb-false, cases_eq, not-false}
use Rattle.list_lemmas.proofs.Booleans.{or_false_left, or_false_right}
use Rattle.step_code.specs.declared.instr.Instr.{Instr}
use Rattle.step_code.specs.declared.instr.Instr.TheVariants.{Load, Store, Port, Fresh, Jump, JumpZero, LoopStart}
use Rattle.step_code.specs.declared.instr.Instr.TheVariants.{LoopNext, Emit, End}
use Rattle.step_code.specs.declared.instr.CodeParts.{CodeParts}
use Rattle.step_code.specs.declared.loops.LoopSpan.{LoopSpan}
use Rattle.step_code.specs.Loops.{loop_at, around}
use Rattle.step_code.specs.SuccessorsAndWeights.{forward_successors}
use Rattle.step_code.specs.proof.StackHeights.{takes, after, Member, Reaches, all_successors}
use Rattle.step_code.specs.proof.SlotsAndPorts.{FindsSlotsAndPorts}
use Rattle.step_code.specs.proof.VerifierRules.{on_some, strays, lacks_next, ends_loop, is_no_loop_slot, Underflow}
use Rattle.step_code.specs.proof.VerifierRules.{HeightsDiffer, IsVerified}
use Rattle.step_code.specs.proof.LoopNesting.{Free, IsNested}
use Rattle.step_code.specs.proof.CleanJumpsAndLoops.{Jumps, IsEnd, Clean}
use Rattle.step_code.proofs.NestingOfCleanCode.{loop_is, clean_nested}
use Rattle.step_code.specs.proof.StuckFreedomConditions.{HasAgreeingHeights, HasSlotsAndPorts}
use Rattle.step_code.proofs.LoopCrossings.{not_le, has_slot}
use Rattle.step_code.proofs.FaultlessInstructions.{goes_well}
use Rattle.step_code.proofs.CheckedPlaces.{IsKnown, known_there}
use Rattle.step_code.proofs.VerifiedInstructionsAndEntries.{verified_known, verified_closed}

-- ---- jumps and loops
goes : (c : CodeParts) (p to : ℕ) → strays c.instrs p to ≡ false → not (nat_lt p to) ≡ false → Jumps c.instrs p to
goes c p to straight forward = let well = goes_well c.instrs p to straight in
    record { there = well.there; forward = not_le p to forward; within = well.within }

loop_there : (o : Option LoopSpan) → not (on_some o (λ l. true)) ≡ false → (l : LoopSpan) × (o ≡ Some l)
loop_there None is = cc
loop_there (Some l) is = (l, refl)

free_of : (ls : List LoopSpan) (slot : ℕ) → has_slot slot ls ≡ false → Free ls slot
free_of [] slot is = tt
free_of (l ∷ ls) slot is = (
  eqb-false l.slot slot (or_false_left (nat_eq l.slot slot) (has_slot slot ls) is),
  free_of ls slot (or_false_right (nat_eq l.slot slot) (has_slot slot ls) is),
)

end_by : (c : CodeParts) (p slot to start : ℕ) (high : ℤ) (o : Option LoopSpan) → IsVerified c
    → slice_get c.instrs p ≡ Some (LoopNext slot high to) → loop_at c.instrs start ≡ o
    → on_some o (λ l. nat_eq l.exit (p + 1)) ≡ true → IsEnd c.instrs p
end_by c p slot to start high None v is at found = absurd (false≢true found)
end_by c p slot to start high (Some l) v is at found =
    let opens = (loop_is c.instrs start l at).opens in
    let exit = eqb-true l.exit (p + 1) found in
    let forward = ((verified_closed c (start + 1) v).each start l (omega arith) at).1 in
    let below : start < p = ⊎_elim
    (λ (less : start < p). less)
    (λ (ge : p ≤ start).
    let same : start ≡ p = omega arith in
    let no : Some (LoopNext slot high to) ≡ Some (LoopStart l.slot l.low l.high l.exit) = sym is
    ∙ ap (slice_get c.instrs) (sym same) ∙ opens in cc)
    (cases_lt start p) in
    record { start = start; loop = l; below = below; opens = at; exit = exit }

is_end : (c : CodeParts) (p slot to : ℕ) (high : ℤ) → IsVerified c → slice_get c.instrs p ≡ Some (LoopNext slot high to)
    → ends_loop c.instrs p to ≡ true → IsEnd c.instrs p
is_end c p slot zero high v is found = absurd (false≢true found)
is_end c p slot (suc start) high v is found =
    end_by c p slot (suc start) start high (loop_at c.instrs start) v is refl found

cleans : (c : CodeParts) (p : ℕ) (i : Instr) → IsVerified c → IsKnown c p i → Clean c.instrs c.vars p i
cleans c p (Jump to) v k =
    goes c p to (or_false_left (strays c.instrs p to) false k.sound.jumps)
    (or_false_left (not (nat_lt p to)) false k.sound.forward)
cleans c p (JumpZero to) v k = (
  goes c p to (or_false_left (strays c.instrs p to) (lacks_next c.instrs p (JumpZero to)) k.sound.jumps)
      (or_false_left (not (nat_lt p to)) false k.sound.forward),
  not_le (p + 1) (length c.instrs)
      (or_false_right (strays c.instrs p to) (lacks_next c.instrs p (JumpZero to)) k.sound.jumps),
)
cleans c p (LoopStart slot low high exit) v k =
    let i = LoopStart slot low high exit in
    let slots = k.sound.slots in
    let no_loop = or_false_left (is_no_loop_slot c slot) (has_slot slot (around c.instrs p)) slots in (
      goes c p exit (or_false_left (strays c.instrs p exit) (lacks_next c.instrs p i) k.sound.jumps)
          (or_false_left (not (nat_lt p exit)) (not (on_some (loop_at c.instrs p) (λ l. true))) k.sound.forward),
      not_le (p + 1) (length c.instrs)
          (or_false_right (strays c.instrs p exit) (lacks_next c.instrs p i) k.sound.jumps),
      loop_there (loop_at c.instrs p)
          (or_false_right (not (nat_lt p exit)) (not (on_some (loop_at c.instrs p) (λ l. true))) k.sound.forward),
      ltb-false slot c.vars (or_false_left (nat_lt slot c.vars) (not (nat_lt slot (c.vars + c.loops))) no_loop),
      free_of (around c.instrs p) slot
          (or_false_right (is_no_loop_slot c slot) (has_slot slot (around c.instrs p)) slots),
    )
cleans c p (LoopNext slot high to) v k = (
  not_le (p + 1) (length c.instrs) k.sound.jumps,
  is_end c p slot to high v k.here (not-false (ends_loop c.instrs p to) k.sound.forward),
)
cleans c p (Store x) v k = (not_le (p + 1) (length c.instrs) k.sound.jumps, not_le x c.vars k.sound.slots)
cleans c p (End state) v k = tt
cleans c p other v k = not_le (p + 1) (length c.instrs) k.sound.jumps

pub verified_nested : (c : CodeParts) → IsVerified c → IsNested c.instrs
verified_nested c v =
    clean_nested c.instrs c.vars (record { each = λ p i is. cleans c p i v (verified_known c p i v is) })

-- ---- slots and ports
feeds : (c : CodeParts) (p : ℕ) (i : Instr) → IsKnown c p i → FindsSlotsAndPorts (c.vars + c.loops) c.ins c.outs i
feeds c p (Load x) k = not_le x (c.vars + c.loops) k.sound.slots
feeds c p (Store x) k = let less = not_le x c.vars k.sound.slots in omega arith
feeds c p (Port x) k = not_le x c.ins k.sound.slots
feeds c p (Fresh x) k = not_le x c.ins k.sound.slots
feeds c p (Emit x) k = not_le x c.outs k.sound.slots
feeds c p (LoopStart slot low high exit) k =
    not_le slot (c.vars + c.loops)
    (or_false_right (nat_lt slot c.vars) (not (nat_lt slot (c.vars + c.loops)))
    (or_false_left (is_no_loop_slot c slot) (has_slot slot (around c.instrs p)) k.sound.slots))
feeds c p (LoopNext slot high to) k =
    not_le slot (c.vars + c.loops)
    (or_false_right (nat_lt slot c.vars) (not (nat_lt slot (c.vars + c.loops))) k.sound.slots)
feeds c p other k = tt

pub verified_fed : (c : CodeParts) → IsVerified c → HasSlotsAndPorts c.instrs (c.vars + c.loops) c.ins c.outs
verified_fed c v = record { each = λ p i is. feeds c p i (verified_known c p i v is) }

-- ---- heights
enough_by : (c : CodeParts) (n p h : ℕ) (i : Instr) → IsVerified c → Reaches c.instrs c.entries n p h
    → slice_get c.instrs p ≡ Some i → takes i ≤ h
enough_by c n p h i v reached is =
    ⊎_elim
    (λ (fewer : h < takes i).
    absurd (v.clean p Underflow
    (record { instr = i; here = is; steps = n; height = h; reached = reached; fewer = fewer })))
    (λ (le : takes i ≤ h). le)
    (cases_lt h (takes i))

same_by : (c : CodeParts) → IsVerified c → (n m p q h k t : ℕ) (i j : Instr) → Reaches c.instrs c.entries n p h
    → slice_get c.instrs p ≡ Some i → Member (all_successors p i) t
    → Reaches c.instrs c.entries m q k → slice_get c.instrs q ≡ Some j → Member (forward_successors q (Some j)) t
    → q < p → q < t
    → after k j ≡ after h i
same_by c v n m p q h k t i j reached is way reached' is' way' less later =
    ⊎_elim
    (λ (e : after k j ≡ after h i). e)
    (λ (differs : after k j ≡ after h i → ⊥).
    absurd (v.clean p HeightsDiffer (record {
      instr = i;
      here = is;
      steps = n;
      height = h;
      reached = reached;
      enough = enough_by c n p h i v reached is;
      to = t;
      leads = way;
      place = (known_there c q j (verified_known c q j v is')).each t way';
      other = after k j;
      given =
          record {
            steps = suc m;
            path =
                (q, k, j, reached', is', enough_by c m q k j v reached' is', way', later, refl);
            from = less;
          };
      differs = differs;
    })))
    (cases_eq (after k j) (after h i))

pub verified_level : (c : CodeParts) → IsVerified c → HasAgreeingHeights c.instrs c.entries
verified_level c v = record { enough = λ n p h i reached is. enough_by c n p h i v reached is; same = same_by c v }
