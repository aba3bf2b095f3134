-- The verifier's result at one place of the code, and the facts about the places that it leads to.
use Rattle.std.proofs.Common.{◌≡◌, ◌∙◌, ℕ, ◌+◌, ◌<◌, ◌≤◌, Bool, true, false, ◌||◌, List, length, Option, Some, None}
use Rattle.std.proofs.Common.{option_to_list, sym, ap, subst, ⊎_elim, arith, slice_index_or}
use Rattle.std.specs.Prelude.{not, nat_lt, if◌then◌else◌, Result, Ok, Err, IfErr, OnOk, slice_get}
use Rattle.std.proofs.lemmas.Bool.{cases_lt, false≢true}
use Rattle.std.proofs.lemmas.Option.{slice_get_within, slice_get-get_or}
use Rattle.list_lemmas.proofs.Booleans.{or_false_left, or_false_right}
use Rattle.step_code.specs.declared.instr.Instr.{Instr}
use Rattle.step_code.specs.declared.instr.CodeParts.{CodeParts}
use Rattle.step_code.specs.declared.fault.CodeFault.{CodeFault}
use Rattle.step_code.specs.declared.fault.CodeFault.TheVariants as fault
use Rattle.pals_base.specs.declared.limits.TheConstants.{INSTRUCTIONS}
use Rattle.step_code.specs.SuccessorsAndWeights.{jump_of, may_go_on, next_of, forward_successors}
use Rattle.step_code.specs.proof.StackHeights.{takes, after, Member, Reaches, all_successors}
use Rattle.step_code.specs.proof.VerifierRules.{strays, lacks_next, jumps_badly, jumps_back, lacks_loop, misses_slot}
use Rattle.step_code.specs.proof.VerifierRules.{is_bad_entry, on_some, finds, Underflows, Differs, Rule, BadJump}
use Rattle.step_code.specs.proof.VerifierRules.{BackJump, BadSlot, Underflow, HeightsDiffer, rank, Finds, IsCleanBelow}
use Rattle.step_code.specs.proof.VerifierRules.{IsFirst, IsFaultOf}
use Rattle.step_code.specs.proof.VerifierIntermediateResults.{Holds, AreThere, AreHeights, PassesOn, Disagrees, Passed}
use Rattle.step_code.proofs.FaultlessInstructions.{IsSound, goes_well}
use Rattle.step_code.proofs.LoopCrossings.{not_le}
use Rattle.step_code.proofs.ListMembers.{member_either}
use Rattle.step_code.proofs.ReachedHeights.{AreLater, on_jump, one_height, reached_heights, reached_held}

-- the rules for an instruction, and when they find nothing
pub record IsKnown (c : CodeParts) (p : ℕ) (i : Instr) : Type 0 where
  pub here : slice_get c.instrs p ≡ Some i
  pub entry : is_bad_entry c.instrs c.entries p ≡ false
  pub sound : IsSound c p i

next_by : (p t : ℕ) (b : Bool) → Member (option_to_list (if b then Some (p + 1) else None)) t → p < t
next_by p t true among = ⊎_elim (λ (e : p + 1 ≡ t). omega arith) (λ none. absurd none) among
next_by p t false among = absurd among

pub known_there : (c : CodeParts) (p : ℕ) (i : Instr) → IsKnown c p i
    → AreThere (forward_successors p (Some i)) (length c.instrs)
known_there c p i known =
    let jumps = known.sound.jumps in
    record {
      each = λ t among.
          ⊎_elim
          (λ (a : Member (option_to_list (jump_of i)) t).
          (goes_well c.instrs p t (on_jump (jump_of i) t (strays c.instrs p)
          (or_false_left (on_some (jump_of i) (strays c.instrs p)) (lacks_next c.instrs p i) jumps) a)).there)
          (λ (b : Member (option_to_list (next_of p i)) t).
          not_le t (length c.instrs)
          (on_jump (next_of p i) t (λ next. not (nat_lt next (length c.instrs)))
          (or_false_right (on_some (jump_of i) (strays c.instrs p)) (lacks_next c.instrs p i) jumps) b))
          (member_either (option_to_list (jump_of i)) (option_to_list (next_of p i)) t among);
    }

pub known_later : (c : CodeParts) (p : ℕ) (i : Instr) → IsKnown c p i → AreLater p (forward_successors p (Some i))
known_later c p i known = record {
  each = λ t among.
      ⊎_elim
      (λ (a : Member (option_to_list (jump_of i)) t).
      not_le p t (on_jump (jump_of i) t (λ to. not (nat_lt p to))
      (or_false_left (on_some (jump_of i) (λ to. not (nat_lt p to))) (lacks_loop c.instrs p i)
      known.sound.forward) a))
      (λ (b : Member (option_to_list (next_of p i)) t). next_by p t (may_go_on i) b)
      (member_either (option_to_list (jump_of i)) (option_to_list (next_of p i)) t among);
}

both_false : (a b : Bool) → a ≡ false → b ≡ false → (a || b) ≡ true → ⊥
both_false true b is is' found = false≢true (sym is)
both_false false b is is' found = false≢true (sym is' ∙ found)

found_here : (c : CodeParts) (p : ℕ) (i : Instr) (test : Instr → Bool) → slice_get c.instrs p ≡ Some i
    → finds c test p ≡ test i
found_here c p i test here = ap (λ o. on_some o test) here

pub none_bad_jump : (c : CodeParts) (p : ℕ) (i : Instr) → slice_get c.instrs p ≡ Some i
    → is_bad_entry c.instrs c.entries p ≡ false → jumps_badly c.instrs p i ≡ false → ¬ Finds c BadJump p
none_bad_jump c p i here entry jumps found =
    both_false (is_bad_entry c.instrs c.entries p) (finds c (jumps_badly c.instrs p) p) entry
    (found_here c p i (jumps_badly c.instrs p) here ∙ jumps) found

pub none_back_jump : (c : CodeParts) (p : ℕ) (i : Instr) → slice_get c.instrs p ≡ Some i
    → jumps_back c.instrs p i ≡ false → ¬ Finds c BackJump p
none_back_jump c p i here is found = false≢true (sym (found_here c p i (jumps_back c.instrs p) here ∙ is) ∙ found)

pub none_bad_slot : (c : CodeParts) (p : ℕ) (i : Instr) → slice_get c.instrs p ≡ Some i → misses_slot c p i ≡ false
    → ¬ Finds c BadSlot p
none_bad_slot c p i here is found = false≢true (sym (found_here c p i (misses_slot c p) here ∙ is) ∙ found)

same_instr : (c : CodeParts) (p : ℕ) (i j : Instr) → slice_get c.instrs p ≡ Some i
    → slice_get c.instrs p ≡ Some j → i ≡ j
same_instr c p i j here here' = let twice : Some i ≡ Some j = sym here ∙ here' in cc

none_underflows : (c : CodeParts) (hs : List (Option ℕ)) (p h : ℕ) (i : Instr) → AreHeights c.instrs c.entries p hs
    → p < length c.instrs → slice_get c.instrs p ≡ Some i → Holds hs p h → takes i ≤ h → ¬ Underflows c p
none_underflows c hs p h i are within here holds enough u =
    let height =
    one_height hs p h u.height holds (reached_held c.instrs c.entries hs u.steps p u.height are within u.reached) in
    let instr = ap takes (same_instr c p i u.instr here u.here) in
    let fewer = u.fewer in
    omega arith

none_differs : (c : CodeParts) (hs new : List (Option ℕ)) (p h : ℕ) (i : Instr) → AreHeights c.instrs c.entries p hs
    → p < length c.instrs → slice_get c.instrs p ≡ Some i → Holds hs p h → PassesOn hs new p i h → ¬ Differs c p
none_differs c hs new p h i are within here holds on d =
    let height =
    one_height hs p h d.height holds (reached_held c.instrs c.entries hs d.steps p d.height are within d.reached) in
    let instr = same_instr c p i d.instr here d.here in
    let is : after d.height d.instr ≡ after h i = ap (λ k. after k d.instr) (sym height) ∙ ap (after h) (sym instr) in
    on.same (record {
      place = d.to;
      among = subst (λ j. Member (all_successors p j) d.to) (sym instr) d.leads;
      other = d.other;
      held = are.held d.to d.other d.place d.given;
      differs = λ e. d.differs (e ∙ sym is);
    })

unreached : (c : CodeParts) (hs : List (Option ℕ)) (p h n : ℕ) → AreHeights c.instrs c.entries p hs
    → p < length c.instrs → slice_get hs p ≡ Some None → Reaches c.instrs c.entries n p h → ⊥
unreached c hs p h n are within none r =
    let no : ◌≡◌ {A = Option (Option ℕ)} (Some None) (Some (Some h)) = sym none
    ∙ reached_held c.instrs c.entries hs n p h are within r in cc

clean_more : (c : CodeParts) (p : ℕ) → IsCleanBelow c p → ((r : Rule) → ¬ Finds c r p) → IsCleanBelow c (p + 1)
clean_more c p clean here = record {
  none = λ q r less found.
      ⊎_elim (λ (below : q < p). clean.none q r below found)
      (λ (ge : p ≤ q). let same : q ≡ p = omega arith in here r (subst (Finds c r) same found)) (cases_lt q p);
}

rules_by : (c : CodeParts) (p : ℕ) (i : Instr) → IsKnown c p i → ¬ Underflows c p → ¬ Differs c p → (r : Rule)
    → ¬ Finds c r p
rules_by c p i k u d BadJump = none_bad_jump c p i k.here k.entry k.sound.jumps
rules_by c p i k u d BackJump = none_back_jump c p i k.here k.sound.forward
rules_by c p i k u d BadSlot = none_bad_slot c p i k.here k.sound.slots
rules_by c p i k u d Underflow = u
rules_by c p i k u d HeightsDiffer = d

pub unreached_clean : (c : CodeParts) (hs : List (Option ℕ)) (p : ℕ) (i : Instr) → IsKnown c p i → IsCleanBelow c p
    → AreHeights c.instrs c.entries p hs → p < length c.instrs → slice_get hs p ≡ Some None → IsCleanBelow c (p + 1)
unreached_clean c hs p i known clean are within none =
    clean_more c p clean (rules_by c p i known (λ u. unreached c hs p u.height u.steps are within none u.reached)
    (λ d. unreached c hs p d.height d.steps are within none d.reached))

pub passed_clean : (c : CodeParts) (old new : List (Option ℕ)) (p h : ℕ) (i : Instr) (r : Result (Unit {0}) CodeFault)
    → IsKnown c p i → IsCleanBelow c p → AreHeights c.instrs c.entries p old → p < length c.instrs → Holds old p h
    → Passed old new p i h r → OnOk r (IsCleanBelow c (p + 1))
passed_clean c old new p h i (Ok done) known clean are within holds on =
    clean_more c p clean (rules_by c p i known (none_underflows c old p h i are within known.here holds on.enough)
    (none_differs c old new p h i are within known.here holds on))
passed_clean c old new p h i (Err e) known clean are within holds on = tt

pub passed_heights : (c : CodeParts) (old new : List (Option ℕ)) (p h : ℕ) (i : Instr) (r : Result (Unit {0}) CodeFault)
    → IsKnown c p i → AreHeights c.instrs c.entries p old → p < length c.instrs → Holds old p h
    → Passed old new p i h r → OnOk r (AreHeights c.instrs c.entries (p + 1) new)
passed_heights c old new p h i (Ok done) known are within holds on =
    reached_heights c.instrs c.entries old new p h i are within known.here holds on (known_later c p i known)
passed_heights c old new p h i (Err e) known are within holds on = tt

earlier_two : (c : CodeParts) (p : ℕ) (i : Instr) (r : Rule) → IsKnown c p i → rank r < 3 → ¬ Finds c r p
earlier_two c p i BadJump k less = none_bad_jump c p i k.here k.entry k.sound.jumps
earlier_two c p i BackJump k less = none_back_jump c p i k.here k.sound.forward
earlier_two c p i BadSlot k less = none_bad_slot c p i k.here k.sound.slots
earlier_two c p i Underflow k less = absurd (omega arith)
earlier_two c p i HeightsDiffer k less = absurd (omega arith)

earlier_three : (c : CodeParts) (p : ℕ) (i : Instr) (r : Rule) → IsKnown c p i → ¬ Underflows c p → rank r < 4
    → ¬ Finds c r p
earlier_three c p i BadJump k none less = none_bad_jump c p i k.here k.entry k.sound.jumps
earlier_three c p i BackJump k none less = none_back_jump c p i k.here k.sound.forward
earlier_three c p i BadSlot k none less = none_bad_slot c p i k.here k.sound.slots
earlier_three c p i Underflow k none less = none
earlier_three c p i HeightsDiffer k none less = absurd (omega arith)

found_underflow : (c : CodeParts) (hs : List (Option ℕ)) (p h : ℕ) (i : Instr) → IsKnown c p i
    → AreHeights c.instrs c.entries p hs → p < length c.instrs → Holds hs p h → h < takes i → Underflows c p
found_underflow c hs p h i known are within holds fewer =
    let g = are.given p h within holds in
    record { instr = i; here = known.here; steps = g.steps; height = h; reached = g.path; fewer = fewer }

found_differs : (c : CodeParts) (hs : List (Option ℕ)) (p h : ℕ) (i : Instr) → IsKnown c p i
    → AreHeights c.instrs c.entries p hs → p < length c.instrs → Holds hs p h → Disagrees hs p i h → Differs c p
found_differs c hs p h i known are within holds d =
    let g = are.given p h within holds in
    let x = d.clash in
    let small : x.place < length c.instrs =
    (let s = slice_get_within hs x.place (Some x.other) x.held in let n = are.count in omega arith) in
    record {
      instr = i;
      here = known.here;
      steps = g.steps;
      height = h;
      reached = g.path;
      enough = d.enough;
      to = x.place;
      leads = x.among;
      place = small;
      other = x.other;
      given = are.given x.place x.other small x.held;
      differs = x.differs;
    }

pub passed_fault : (c : CodeParts) (old new : List (Option ℕ)) (p h : ℕ) (i : Instr) (r : Result (Unit {0}) CodeFault)
    → length c.instrs ≤ INSTRUCTIONS → IsKnown c p i → IsCleanBelow c p → AreHeights c.instrs c.entries p old
    → p < length c.instrs
    → Holds old p h → Passed old new p i h r → IfErr r (λ f. IsFaultOf c f)
passed_fault c old new p h i (Ok done) short known clean are within holds on = tt
passed_fault c old new p h i (Err (fault.Underflow q)) short known clean are within holds on =
    subst (IsFirst c Underflow) (sym on.0) (record {
      short = short;
      here = found_underflow c old p h i known are within holds on.1;
      earlier_places = clean;
      earlier_rules = λ r less. earlier_two c p i r known less;
    })
passed_fault c old new p h i (Err (fault.HeightsDiffer q)) short known clean are within holds on =
    subst (IsFirst c HeightsDiffer) (sym on.0) (record {
      short = short;
      here = found_differs c old p h i known are within holds on.1;
      earlier_places = clean;
      earlier_rules =
          λ r less. earlier_three c p i r known
          (none_underflows c old p h i are within known.here holds on.1.enough) less;
    })
passed_fault c old new p h i (Err (fault.BadJump q)) short known clean are within holds on = absurd on
passed_fault c old new p h i (Err (fault.BadSlot q)) short known clean are within holds on = absurd on
passed_fault c old new p h i (Err (fault.TooLong q)) short known clean are within holds on = absurd on
passed_fault c old new p h i (Err (fault.BackJump q)) short known clean are within holds on = absurd on
passed_fault c old new p h i (Err fault.Memory) short known clean are within holds on = absurd on

pub known_by : (c : CodeParts) (p : ℕ) (xs ys : List Instr) (d : Instr) (a b e : Bool) → xs ≡ c.instrs → ys ≡ c.instrs
    → p < length c.instrs → is_bad_entry c.instrs c.entries p ≡ false
    → a ≡ jumps_badly c.instrs p (slice_index_or xs p d) → a ≡ false → b ≡ jumps_back ys p (slice_index_or xs p d)
    → b ≡ false → e ≡ misses_slot c p (slice_index_or xs p d) → e ≡ false
    → IsKnown c p (slice_index_or xs p d)
known_by c p xs ys d a b e same same' within entry jumps jumps' back back' slots slots' =
    let size = ap length same in
    record {
      here = ap (λ l. slice_get l p) (sym same) ∙ slice_get-get_or xs p d (omega arith);
      entry = entry;
      sound =
          record {
            jumps = sym jumps ∙ jumps';
            forward = ap (λ l. jumps_back l p (slice_index_or xs p d)) (sym same') ∙ sym back ∙ back';
            slots = sym slots ∙ slots';
          };
    }
