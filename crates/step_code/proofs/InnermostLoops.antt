-- The innermost loop round a place, from those round earlier places.
use Rattle.std.proofs.Common.{◌≡◌, ◌∙◌, ℕ, zero, suc, ◌+◌, ◌-◌, ◌<◌, ◌≤◌, Bool, true, false, cond, List, [], ◌∷◌}
use Rattle.std.proofs.Common.{length, Option, Some, None, refl, sym, ap, subst, arith, nat_lt, slice_index_or}
use Rattle.std.specs.Prelude.{filter}
use Rattle.std.specs.Option.{option_or}
use Rattle.std.proofs.lemmas.Bool.{ltb-true, lt-ltb}
use Rattle.std.proofs.lemmas.Option.{get_or_from_slice_get}
use Rattle.step_code.specs.declared.instr.Instr.{Instr}
use Rattle.step_code.specs.declared.loops.LoopSpan.{LoopSpan}
use Rattle.step_code.specs.Loops.{loop_at, with_loop, loops_below}
use Rattle.step_code.specs.proof.InnermostLoops.{first, innermost, AreInnermost, outwards, StartsBelow, ComesFrom}
use Rattle.step_code.proofs.NestingOfCleanCode.{loop_is}

-- the first loop that a test keeps: it is a loop, and what a stricter test keeps is it or starts below it
pub record IsFound (code : List Instr) (n : ℕ) (g : LoopSpan → Bool) (l : LoopSpan) : Type 0 where
  pub below : l.start < n
  pub is : loop_at code l.start ≡ Some l
  pub kept : g l ≡ true
  pub rest : (h : LoopSpan → Bool) → ((m : LoopSpan) → h m ≡ true → g m ≡ true)
      → filter h (loops_below code n) ≡ filter h (l ∷ loops_below code l.start)

strict : (g h : LoopSpan → Bool) (m : LoopSpan) (b : Bool) → g m ≡ false → (h m ≡ true → g m ≡ true)
    → h m ≡ b → b ≡ false
strict g h m true not_kept stricter is = let kept = stricter is in cc
strict g h m false not_kept stricter is = refl

found_step : (code : List Instr) (n : ℕ) (g : LoopSpan → Bool) (l x : LoopSpan) (b : Bool)
    → loop_at code n ≡ Some x → g x ≡ b
    → (first (filter g (loops_below code n)) ≡ Some l → IsFound code n g l)
    → first (cond b (x ∷ filter g (loops_below code n)) (filter g (loops_below code n))) ≡ Some l
    → IsFound code (suc n) g l
found_step code n g l x true at kept again is =
    let same : x ≡ l = cc in
    let start : x.start ≡ n = (loop_is code n x at).start in
    subst (IsFound code (suc n) g) same (record {
      below = omega arith;
      is = ap (loop_at code) start ∙ at;
      kept = kept;
      rest =
          λ h stricter. ap (λ o. filter h (with_loop o (loops_below code n))) at
          ∙ ap (λ k. filter h (x ∷ loops_below code k)) (sym start);
    })
found_step code n g l x false at not_kept again is =
    let f = again is in
    let less = f.below in
    record {
      below = omega arith;
      is = f.is;
      kept = f.kept;
      rest = λ h stricter.
          ap (λ o. filter h (with_loop o (loops_below code n))) at
          ∙ ap (λ b. cond b (x ∷ filter h (loops_below code n)) (filter h (loops_below code n)))
          (strict g h x (h x) not_kept (stricter x) refl)
          ∙ f.rest h stricter;
    }

found_at : (code : List Instr) (n : ℕ) (g : LoopSpan → Bool) (l : LoopSpan) (o : Option LoopSpan) → loop_at code n ≡ o
    → (first (filter g (loops_below code n)) ≡ Some l → IsFound code n g l)
    → first (filter g (with_loop o (loops_below code n))) ≡ Some l → IsFound code (suc n) g l
found_at code n g l None at again is =
    let f = again is in
    let less = f.below in
    record {
      below = omega arith;
      is = f.is;
      kept = f.kept;
      rest = λ h stricter. ap (λ o. filter h (with_loop o (loops_below code n))) at ∙ f.rest h stricter;
    }
found_at code n g l (Some x) at again is = found_step code n g l x (g x) at refl again is

pub is_found : (code : List Instr) (n : ℕ) (g : LoopSpan → Bool) (l : LoopSpan)
    → first (filter g (loops_below code n)) ≡ Some l
    → IsFound code n g l
is_found code zero g l is = cc
is_found code (suc n) g l is = found_at code n g l (loop_at code n) refl (is_found code n g l) is

-- where a test keeps none, a stricter one keeps none
none_cons : (g h : LoopSpan → Bool) (x : LoopSpan) (xs : List LoopSpan) (b : Bool) → g x ≡ b
    → ((m : LoopSpan) → h m ≡ true → g m ≡ true) → (first (filter g xs) ≡ None → filter h xs ≡ [])
    → first (cond b (x ∷ filter g xs) (filter g xs)) ≡ None → cond (h x) (x ∷ filter h xs) (filter h xs) ≡ []
none_cons g h x xs true kept stricter again is = cc
none_cons g h x xs false kept stricter again is =
    ap (λ b. cond b (x ∷ filter h xs) (filter h xs)) (strict g h x (h x) kept (stricter x) refl) ∙ again is

pub none_found : (g h : LoopSpan → Bool) (xs : List LoopSpan) → ((m : LoopSpan) → h m ≡ true → g m ≡ true)
    → first (filter g xs) ≡ None → filter h xs ≡ []
none_found g h [] stricter is = refl
none_found g h (x ∷ xs) stricter is = none_cons g h x xs (g x) refl stricter (none_found g h xs stricter) is

-- ---- candidates
later_strict : (p q : ℕ) → p ≤ q → (m : LoopSpan) → nat_lt q m.exit ≡ true → nat_lt p m.exit ≡ true
later_strict p q le m is = let less = ltb-true q m.exit is in lt-ltb p m.exit (omega arith)

starts_by : (code : List Instr) (p q : ℕ) (o : Option LoopSpan) → innermost code p ≡ o → p ≤ q → StartsBelow q o
starts_by code p q None is le = tt
starts_by code p q (Some l) is le = let f = is_found code p (λ m. nat_lt p m.exit) l is in
    let less = f.below in omega arith

-- the loops below an earlier place that extend beyond a later one are the loops from the innermost one on
beyond_by : (code : List Instr) (p q : ℕ) (o : Option LoopSpan) → innermost code p ≡ o → p ≤ q
    → filter (λ m. nat_lt q m.exit) (loops_below code p) ≡ filter (λ m. nat_lt q m.exit) (outwards code o)
beyond_by code p q None is le =
    none_found (λ m. nat_lt p m.exit) (λ m. nat_lt q m.exit) (loops_below code p) (later_strict p q le) is
beyond_by code p q (Some l) is le =
    (is_found code p (λ m. nat_lt p m.exit) l is).rest (λ m. nat_lt q m.exit) (later_strict p q le)

-- an ended candidate gives way to the one round its start
pub comes_outwards : (code : List Instr) (p : ℕ) (l : LoopSpan) → ComesFrom code p (Some l) → l.exit ≤ p
    → ComesFrom code p (innermost code l.start)
comes_outwards code p l from ended =
    let less = from.starts in
    let over : nat_lt p l.exit ≡ false = grind arith in
    record {
      starts = starts_by code l.start p (innermost code l.start) refl (omega arith);
      same =
          from.same ∙ ap (λ b. cond b (l ∷ filter (λ m. nat_lt p m.exit) (loops_below code l.start))
          (filter (λ m. nat_lt p m.exit) (loops_below code l.start))) over
          ∙ beyond_by code l.start p (innermost code l.start) refl (omega arith);
    }

-- the first candidate: the loop that starts just before, or else the innermost one there
pub comes_by : (code : List Instr) (k : ℕ) (o : Option LoopSpan) → loop_at code k ≡ o
    → ComesFrom code (suc k) (option_or o (innermost code k))
comes_by code k None is = record {
  starts = starts_by code k (suc k) (innermost code k) refl (omega arith);
  same =
      ap (λ o. filter (λ m. nat_lt (suc k) m.exit) (with_loop o (loops_below code k))) is
      ∙ beyond_by code k (suc k) (innermost code k) refl (omega arith);
}
comes_by code k (Some l) is =
    let start = (loop_is code k l is).start in
    record {
      starts = omega arith;
      same =
          ap (λ o. filter (λ m. nat_lt (suc k) m.exit) (with_loop o (loops_below code k))) is
          ∙ ap (λ n. filter (λ m. nat_lt (suc k) m.exit) (l ∷ loops_below code n)) (sym start);
    }

-- ---- the list of them
pub read_innermost : (code : List Instr) (found : List (Option LoopSpan)) (k : ℕ) (d : Option LoopSpan)
    → AreInnermost code found → k < length found → slice_index_or found k d ≡ innermost code k
read_innermost code found k d are within = get_or_from_slice_get found k (innermost code k) d (are.each k within)

-- the first candidate, of the place after the last one
pub comes_first : (code : List Instr) (found : List (Option LoopSpan)) (d : Option LoopSpan) → AreInnermost code found
    → (length found ≡ 0 → ⊥)
    → ComesFrom code (length found)
    (option_or (loop_at code (length found - 1)) (slice_index_or found (length found - 1) d))
comes_first code found d are some =
    let k = length found - 1 in
    let place : suc k ≡ length found = omega arith in
    subst (λ p. ComesFrom code p (option_or (loop_at code k) (slice_index_or found k d))) place
    (subst (λ o. ComesFrom code (suc k) (option_or (loop_at code k) o))
    (sym (read_innermost code found k d are (omega arith))) (comes_by code k (loop_at code k) refl))

pub comes_next : (code : List Instr) (found : List (Option LoopSpan)) (l : LoopSpan) (d : Option LoopSpan)
    → AreInnermost code found
    → ComesFrom code (length found) (Some l) → l.exit ≤ length found
    → ComesFrom code (length found) (slice_index_or found l.start d)
comes_next code found l d are from ended =
    subst (ComesFrom code (length found)) (sym (read_innermost code found l.start d are from.starts))
    (comes_outwards code (length found) l from ended)

abbrev pub start_of : Option LoopSpan → ℕ
start_of None = 0
start_of (Some l) = l.start + 1

starts_fewer : (n : ℕ) (o : Option LoopSpan) → StartsBelow n o → start_of o < n + 1
starts_fewer n None below = omega arith
starts_fewer n (Some l) below = omega arith

pub start_falls : (code : List Instr) (found : List (Option LoopSpan)) (l : LoopSpan) (d : Option LoopSpan)
    → AreInnermost code found → l.start < length found
    → start_of (slice_index_or found l.start d) < l.start + 1
start_falls code found l d are within =
    subst (λ o. start_of o < l.start + 1) (sym (read_innermost code found l.start d are within))
    (starts_fewer l.start (innermost code l.start)
    (starts_by code l.start l.start (innermost code l.start) refl (omega arith)))
