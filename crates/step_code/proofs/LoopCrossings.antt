-- Whether a jump crosses the border of a loop's body, which the innermost loops of its two places determine.
use Rattle.std.proofs.Common.{◌≡◌, ◌∙◌, ℕ, zero, suc, ◌<◌, ◌≤◌, Bool, true, false, ◌&&◌, ◌||◌, if◌then◌else◌, cond}
use Rattle.std.proofs.Common.{List, ◌∷◌, length, Option, Some, None, refl, sym, ap, subst, ⊎_elim, arith, nat_lt}
use Rattle.std.proofs.Common.{nat_eq, slice_index_or}
use Rattle.std.specs.Prelude.{not, filter}
use Rattle.std.specs.List.{list_all, list_any}
use Rattle.std.proofs.lemmas.Bool.{and_parts, ltb-true, cases_lt, false≢true, le-ltb, lt-ltb}
use Rattle.std.proofs.Math.Bool.{and-false}
use Rattle.std.specs.Cmp.{both_ways}
use Rattle.pals_base.proofs.CycleSearchMarks.{list_all-same}
use Rattle.step_code.specs.declared.instr.Instr.{Instr}
use Rattle.step_code.specs.declared.loops.LoopSpan.{LoopSpan}
use Rattle.step_code.specs.Loops.{loop_at, with_loop, loops_below, around}
use Rattle.step_code.specs.proof.InnermostLoops.{first, innermost, AreInnermost, ends_by, starts_from}
use Rattle.step_code.specs.proof.VerifierRules.{inside, agrees, stays, strays}
use Rattle.step_code.proofs.NestingOfCleanCode.{loop_is, all_below, agree_same, filter_below}
use Rattle.step_code.proofs.InnermostLoops.{is_found, read_innermost}

-- the exit jumps of the loops that start below a place part no bodies and go forward
pub record AreClosed (code : List Instr) (p : ℕ) : Type 0 where
  pub each : (k : ℕ) (l : LoopSpan) → k < p → loop_at code k ≡ Some l → (stays code k l.exit ≡ true) × (k < l.exit)

pub is_inside : (p : ℕ) (l : LoopSpan) → l.start < p → p < l.exit → inside p l ≡ true
is_inside p l after before = ap (λ b. b && nat_lt p l.exit) (lt-ltb l.start p after) ∙ lt-ltb p l.exit before

pub not_after : (p : ℕ) (l : LoopSpan) → p ≤ l.start → inside p l ≡ false
not_after p l le = ap (λ b. b && nat_lt p l.exit) (le-ltb l.start p le)

pub not_before : (p : ℕ) (l : LoopSpan) → l.exit ≤ p → inside p l ≡ false
not_before p l le = ap (λ b. nat_lt l.start p && b) (le-ltb p l.exit le) ∙ and-false (nat_lt l.start p)

not_le_by : (a b : ℕ) (t : Bool) → nat_lt a b ≡ t → not t ≡ false → a < b
not_le_by a b true is not_it = ltb-true a b is
not_le_by a b false is not_it = cc

-- `a` is below `b` if `b` is not at most `a`
pub not_le : (a b : ℕ) → not (nat_lt a b) ≡ false → a < b
not_le a b is = not_le_by a b (nat_lt a b) refl is

le_by : (a b : ℕ) (t : Bool) → nat_lt a b ≡ t → not t ≡ true → b ≤ a
le_by a b true is not_it = cc
le_by a b false is not_it = grind arith

pub le_is : (a b : ℕ) → not (nat_lt a b) ≡ true → b ≤ a
le_is a b is = le_by a b (nat_lt a b) refl is

-- ---- tests of all loops
all_of_step : (f : LoopSpan → Bool) (code : List Instr) (n : ℕ) (o : Option LoopSpan) → loop_at code n ≡ o
    → ((k : ℕ) (l : LoopSpan) → k < suc n → loop_at code k ≡ Some l → f l ≡ true)
    → list_all f (loops_below code n) ≡ true → list_all f (with_loop o (loops_below code n)) ≡ true
all_of_step f code n None at each rest = rest
all_of_step f code n (Some l) at each rest =
    ap (λ b. b && list_all f (loops_below code n)) (each n l (omega arith) at) ∙ rest

all_of : (f : LoopSpan → Bool) (code : List Instr) (n : ℕ)
    → ((k : ℕ) (l : LoopSpan) → k < n → loop_at code k ≡ Some l → f l ≡ true) → list_all f (loops_below code n) ≡ true
all_of f code zero each = refl
all_of f code (suc n) each =
    all_of_step f code n (loop_at code n) refl each (all_of f code n (λ k l less at. each k l (omega arith) at))

one_not_by : (f : LoopSpan → Bool) (code : List Instr) (n k : ℕ) (l : LoopSpan) (b : Bool)
    → list_all f (loops_below code n) ≡ b
    → k < n → loop_at code k ≡ Some l → f l ≡ false → b ≡ false
one_not_by f code n k l true all within at is = absurd (false≢true (sym is ∙ all_below f code n k l all within at))
one_not_by f code n k l false all within at is = refl

one_not : (f : LoopSpan → Bool) (code : List Instr) (n k : ℕ) (l : LoopSpan) → k < n → loop_at code k ≡ Some l
    → f l ≡ false
    → list_all f (loops_below code n) ≡ false
one_not f code n k l within at is = one_not_by f code n k l (list_all f (loops_below code n)) refl within at is

-- ---- the loop of the highest start
abbrev IsTop : List Instr → ℕ → (LoopSpan → Bool) → Option LoopSpan → Type 0
IsTop code n g None = (k : ℕ) (m : LoopSpan) → k < n → loop_at code k ≡ Some m → g m ≡ true → ⊥
IsTop code n g (Some l) = (k : ℕ) (m : LoopSpan) → k < n → loop_at code k ≡ Some m → g m ≡ true → k ≤ l.start

top_more : (code : List Instr) (n : ℕ) (g : LoopSpan → Bool) (o : Option LoopSpan)
    → ((m : LoopSpan) → loop_at code n ≡ Some m → g m ≡ true → ⊥) → IsTop code n g o → IsTop code (suc n) g o
top_more code n g None not_here top = λ k m less at kept.
    ⊎_elim (λ (below : k < n). top k m below at kept)
    (λ (ge : n ≤ k). let same : k ≡ n = omega arith in
    not_here m (subst (λ j. loop_at code j ≡ Some m) same at) kept) (cases_lt k n)
top_more code n g (Some l) not_here top = λ k m less at kept.
    ⊎_elim (λ (below : k < n). top k m below at kept)
    (λ (ge : n ≤ k). let same : k ≡ n = omega arith in
    absurd (not_here m (subst (λ j. loop_at code j ≡ Some m) same at) kept)) (cases_lt k n)

top_if : (code : List Instr) (n : ℕ) (g : LoopSpan → Bool) (x : LoopSpan) (b : Bool) → loop_at code n ≡ Some x → g x ≡ b
    → IsTop code n g (first (filter g (loops_below code n)))
    → IsTop code (suc n) g (first (cond b (x ∷ filter g (loops_below code n)) (filter g (loops_below code n))))
top_if code n g x true at is top = λ k m less at' kept. let start = (loop_is code n x at).start in omega arith
top_if code n g x false at is top =
    top_more code n g (first (filter g (loops_below code n)))
    (λ m at' kept. let same : ◌≡◌ {A = Option LoopSpan} (Some x) (Some m) = sym at ∙ at' in let e : x ≡ m = cc in
    absurd (false≢true (sym is ∙ ap g e ∙ kept))) top

top_by : (code : List Instr) (n : ℕ) (g : LoopSpan → Bool) (o : Option LoopSpan) → loop_at code n ≡ o
    → IsTop code n g (first (filter g (loops_below code n)))
    → IsTop code (suc n) g (first (filter g (with_loop o (loops_below code n))))
top_by code n g None at top =
    top_more code n g (first (filter g (loops_below code n)))
    (λ m at' kept. let no : ◌≡◌ {A = Option LoopSpan} None (Some m) = sym at ∙ at' in cc) top
top_by code n g (Some x) at top = top_if code n g x (g x) at refl top

top_is : (code : List Instr) (n : ℕ) (g : LoopSpan → Bool) → IsTop code n g (first (filter g (loops_below code n)))
top_is code zero g = λ k m less at kept. omega arith
top_is code (suc n) g = top_by code n g (loop_at code n) refl (top_is code n g)

abbrev pub IsInnermost : List Instr → ℕ → Option LoopSpan → Type 0
IsInnermost code p o = IsTop code p (λ l. nat_lt p l.exit) o

pub innermost_is : (code : List Instr) (p : ℕ) → IsInnermost code p (innermost code p)
innermost_is code p = top_is code p (λ l. nat_lt p l.exit)

-- ---- a loop around the start of a closed loop extends beyond its exit
within_exit : (code : List Instr) (p k : ℕ) (l m : LoopSpan) → p ≤ length code → AreClosed code p
    → loop_at code l.start ≡ Some l → l.start < p → loop_at code k ≡ Some m → k < l.start → l.start < m.exit
    → l.exit < m.exit
within_exit code p k l m small closed at below at' less beyond =
    let start = (loop_is code k m at').start in
    let c = closed.each l.start l below at in
    let agreed = all_below (agrees l.start l.exit) code (length code) k m c.0 (omega arith) at' in
    let lies : inside l.start m ≡ true = is_inside l.start m (omega arith) (omega arith) in
    let same = agree_same (inside l.start m) (inside l.exit m) agreed in
    ltb-true l.exit m.exit (and_parts (nat_lt m.start l.exit) (nat_lt l.exit m.exit) (sym same ∙ lies)).1

agree_true : (b c : Bool) → (b ≡ true → c ≡ true) → (b ≡ false → c ≡ true → ⊥) → (if b then c else not c) ≡ true
agree_true true true one other = refl
agree_true true false one other = one refl
agree_true false true one other = absurd (other refl refl)
agree_true false false one other = refl

record IsAt (p : ℕ) (l : LoopSpan) : Type 0 where
  pub after : l.start < p
  pub before : p < l.exit

inside_is : (p : ℕ) (l : LoopSpan) → inside p l ≡ true → IsAt p l
inside_is p l is = let both = and_parts (nat_lt l.start p) (nat_lt p l.exit) is in
    record { after = ltb-true l.start p both.0; before = ltb-true p l.exit both.1 }

-- ---- neither ends between nor starts between
stay_low : (code : List Instr) (low high k : ℕ) (m : LoopSpan) (o : Option LoopSpan) → low ≤ high → high < length code
    → AreClosed code low → innermost code low ≡ o → ends_by o high ≡ false → loop_at code k ≡ Some m
    → inside low m ≡ true → inside high m ≡ true
stay_low code low high k m None le small closed is ends at lies =
    let a = inside_is low m lies in
    let after = a.after in
    let before = a.before in
    let start = (loop_is code k m at).start in
    let none = subst (IsInnermost code low) is (innermost_is code low) in
    absurd (none k m (omega arith) at (lt-ltb low m.exit before))
stay_low code low high k m (Some l) le small closed is ends at lies =
    let a = inside_is low m lies in
    let after = a.after in
    let before = a.before in
    let start = (loop_is code k m at).start in
    let f = is_found code low (λ x. nat_lt low x.exit) l is in
    let below = f.below in
    let top =
    (subst (IsInnermost code low) is (innermost_is code low)) k m (omega arith) at (lt-ltb low m.exit before) in
    let going : high < l.exit = not_le high l.exit ends in
    let exits : l.exit ≤ m.exit =
    ⊎_elim
    (λ (less : k < l.start). let more =
    within_exit code low k l m (omega arith) closed f.is f.below at less (omega arith) in omega arith)
    (λ (ge : l.start ≤ k). let same : l.start ≡ k = omega arith in
    let e : ◌≡◌ {A = Option LoopSpan} (Some l) (Some m) = sym f.is ∙ ap (loop_at code) same ∙ at in
    let x : l ≡ m = cc in let y = ap (λ (z : LoopSpan). z.exit) x in omega arith)
    (cases_lt k l.start) in
    is_inside high m (omega arith) (omega arith)

stay_high : (code : List Instr) (low high k : ℕ) (m : LoopSpan) (o : Option LoopSpan) → low ≤ high
    → innermost code high ≡ o
    → starts_from o low ≡ false → loop_at code k ≡ Some m → inside low m ≡ false → inside high m ≡ true → ⊥
stay_high code low high k m None le is starts at out lies =
    let a = inside_is high m lies in
    let after = a.after in
    let start = (loop_is code k m at).start in
    (subst (IsInnermost code high) is (innermost_is code high)) k m (omega arith) at (lt-ltb high m.exit a.before)
stay_high code low high k m (Some h) le is starts at out lies =
    let a = inside_is high m lies in
    let after = a.after in
    let before = a.before in
    let start = (loop_is code k m at).start in
    let top =
    (subst (IsInnermost code high) is (innermost_is code high)) k m (omega arith) at (lt-ltb high m.exit before) in
    let less : h.start < low = not_le h.start low starts in
    false≢true (sym out ∙ is_inside low m (omega arith) (omega arith))

-- ---- one ends between, or starts between
parted : (b c : Bool) → b ≡ true → c ≡ false → (if b then c else not c) ≡ false
parted b c is is' = ap (λ x. if x then c else not c) is ∙ is'

parted_not : (b c : Bool) → b ≡ false → c ≡ true → (if b then c else not c) ≡ false
parted_not b c is is' = ap (λ x. if x then c else not c) is ∙ ap not is'

ends_part : (code : List Instr) (low high : ℕ) (o : Option LoopSpan) → low ≤ high → high < length code
    → innermost code low ≡ o → ends_by o high ≡ true → stays code low high ≡ false
ends_part code low high None le small is ends = cc
ends_part code low high (Some l) le small is ends =
    let f = is_found code low (λ x. nat_lt low x.exit) l is in
    let below = f.below in
    let over : l.exit ≤ high = le_is high l.exit ends in
    one_not (agrees low high) code (length code) l.start l (omega arith) f.is
    (parted (inside low l) (inside high l) (is_inside low l f.below (ltb-true low l.exit f.kept))
    (not_before high l over))

starts_part : (code : List Instr) (low high : ℕ) (o : Option LoopSpan) → low ≤ high → high < length code
    → innermost code high ≡ o → starts_from o low ≡ true → stays code low high ≡ false
starts_part code low high None le small is starts = cc
starts_part code low high (Some h) le small is starts =
    let f = is_found code high (λ x. nat_lt high x.exit) h is in
    let below = f.below in
    let from : low ≤ h.start = le_is h.start low starts in
    one_not (agrees low high) code (length code) h.start h (omega arith) f.is
    (parted_not (inside low h) (inside high h) (not_after low h from)
    (is_inside high h f.below (ltb-true high h.exit f.kept)))

parts_by : (code : List Instr) (low high : ℕ) (e s : Bool) → low ≤ high → high < length code → AreClosed code low
    → ends_by (innermost code low) high ≡ e → starts_from (innermost code high) low ≡ s
    → (e || s) ≡ not (stays code low high)
parts_by code low high true s le small closed ends starts =
    sym (ap not (ends_part code low high (innermost code low) le small refl ends))
parts_by code low high false true le small closed ends starts =
    sym (ap not (starts_part code low high (innermost code high) le small refl starts))
parts_by code low high false false le small closed ends starts =
    sym (ap not (all_of (agrees low high) code (length code) (λ k m within at.
    agree_true (inside low m) (inside high m)
    (stay_low code low high k m (innermost code low) le small closed refl ends at)
    (stay_high code low high k m (innermost code high) le refl starts at))))

-- bodies separate two places if and only if the innermost one around the lower ends by the higher, or the one around
-- the higher starts from the lower on
pub parts_bodies : (code : List Instr) (low high : ℕ) → low ≤ high → high < length code → AreClosed code low
    → (ends_by (innermost code low) high || starts_from (innermost code high) low) ≡ not (stays code low high)
parts_bodies code low high le small closed =
    parts_by code low high (ends_by (innermost code low) high) (starts_from (innermost code high) low) le small
    closed refl refl

agrees_swapped_by : (b c : Bool) → (if b then c else not c) ≡ (if c then b else not b)
agrees_swapped_by true true = refl
agrees_swapped_by true false = refl
agrees_swapped_by false true = refl
agrees_swapped_by false false = refl

pub stays-swapped : (code : List Instr) (p q : ℕ) → stays code p q ≡ stays code q p
stays-swapped code p q =
    list_all-same (agrees p q) (agrees q p) (λ l. agrees_swapped_by (inside p l) (inside q l))
    (loops_below code (length code))

-- ---- whether a jump goes to no place, or into or out of a body, from a list of innermost loops
there_not : (code : List Instr) (p q : ℕ) → q < length code → not (stays code p q) ≡ strays code p q
there_not code p q there = sym (ap (λ b. not (b && stays code p q)) (lt-ltb q (length code) there))

pub strays_up : (code : List Instr) (found : List (Option LoopSpan)) (from to : ℕ) (e s : Bool) (d : Option LoopSpan)
    → AreInnermost code found → length found ≡ length code → from ≤ to → to < length code → AreClosed code from
    → e ≡ ends_by (slice_index_or found from d) to → s ≡ starts_from (slice_index_or found to d) from
    → (e || s) ≡ strays code from to
strays_up code found from to e s d are count le there closed ends starts =
    ap (λ b. b || s) (ends ∙ ap (λ o. ends_by o to) (read_innermost code found from d are (omega arith)))
    ∙ ap (λ b. ends_by (innermost code from) to || b)
    (starts ∙ ap (λ o. starts_from o from) (read_innermost code found to d are (omega arith)))
    ∙ parts_bodies code from to le there closed
    ∙ there_not code from to there

pub strays_down : (code : List Instr) (found : List (Option LoopSpan)) (from to : ℕ) (e s : Bool) (d : Option LoopSpan)
    → AreInnermost code found → length found ≡ length code → to ≤ from → from < length code → AreClosed code from
    → e ≡ ends_by (slice_index_or found to d) from → s ≡ starts_from (slice_index_or found from d) to
    → (e || s) ≡ strays code from to
strays_down code found from to e s d are count le there closed ends starts =
    ap (λ b. b || s) (ends ∙ ap (λ o. ends_by o from) (read_innermost code found to d are (omega arith)))
    ∙ ap (λ b. ends_by (innermost code to) from || b)
    (starts ∙ ap (λ o. starts_from o to) (read_innermost code found from d are (omega arith)))
    ∙ parts_bodies code to from le there (record { each = λ k l less at. closed.each k l (omega arith) at })
    ∙ ap not (stays-swapped code to from)
    ∙ there_not code from to (omega arith)

-- ---- the loops round a place are the innermost one and those round its start

pub around_outer : (code : List Instr) (p : ℕ) (l : LoopSpan) → p ≤ length code → AreClosed code p
    → innermost code p ≡ Some l → around code p ≡ l ∷ around code l.start
around_outer code p l small closed is =
    let g : LoopSpan → Bool = λ m. nat_lt p m.exit in
    let f = is_found code p g l is in
    let below = f.below in
    let going = ltb-true p l.exit f.kept in
    f.rest g (λ m kept. kept)
    ∙ ap (λ b. cond b (l ∷ filter g (loops_below code l.start)) (filter g (loops_below code l.start))) f.kept
    ∙ ap (λ ls. l ∷ ls) (filter_below code g (λ m. nat_lt l.start m.exit) l.start (λ k m less at.
    both_ways (nat_lt p m.exit) (nat_lt l.start m.exit)
    (λ kept. let beyond = ltb-true p m.exit kept in lt-ltb l.start m.exit (omega arith))
    (λ kept. let more = within_exit code p k l m small closed f.is f.below at less (ltb-true l.start m.exit kept) in
    lt-ltb p m.exit (omega arith))))

-- ---- whether one of them has a slot
abbrev pub has_slot : ℕ → List LoopSpan → Bool
has_slot slot = list_any (λ l. nat_eq l.slot slot)

-- the remaining candidates
pub record LooksOn (code : List Instr) (place slot : ℕ) (round : Option LoopSpan) : Type 0 where
  pub at : ℕ
  pub below : at ≤ place
  pub is : round ≡ innermost code at
  pub same : has_slot slot (around code place) ≡ has_slot slot (around code at)

looks_by : (code : List Instr) (place slot : ℕ) (l : LoopSpan) → place ≤ length code → AreClosed code place
    → (on : LooksOn code place slot (Some l))
    → has_slot slot (around code place) ≡ (nat_eq l.slot slot || has_slot slot (around code l.start))
looks_by code place slot l small closed on =
    let below = on.below in
    on.same ∙ ap (has_slot slot)
    (around_outer code on.at l (omega arith) (record { each = λ k m less at. closed.each k m (omega arith) at })
    (sym on.is))

pub looks_further : (code : List Instr) (found : List (Option LoopSpan)) (place slot : ℕ) (l : LoopSpan)
    (d : Option LoopSpan)
    → AreInnermost code found → place < length found → length found ≡ length code → AreClosed code place
    → LooksOn code place slot (Some l) → (l.slot ≡ slot → ⊥)
    → LooksOn code place slot (slice_index_or found l.start d) × (l.start < place)
looks_further code found place slot l d are within count closed on other =
    let f = is_found code on.at (λ m. nat_lt on.at m.exit) l (sym on.is) in
    let less = f.below in
    let below = on.below in
    let differs : nat_eq l.slot slot ≡ false = grind arith in (
      record {
        at = l.start;
        below = omega arith;
        is = read_innermost code found l.start d are (omega arith);
        same =
            looks_by code place slot l (omega arith) closed on
            ∙ ap (λ b. b || has_slot slot (around code l.start)) differs;
      },
      omega arith,
    )
