-- Code that is clean by the verifier's rules has its jumps and loops nested.
use Rattle.std.proofs.Common.{◌≡◌, ◌∙◌, ℕ, zero, suc, ◌+◌, ◌-◌, ◌<◌, ◌≤◌, ℤ, Bool, true, false, ◌&&◌, if◌then◌else◌}
use Rattle.std.proofs.Common.{cond, List, [], ◌∷◌, length, Option, Some, None, refl, sym, ap, subst, ⊎_elim, arith}
use Rattle.std.proofs.Common.{add-one, nat_eq, nat_lt}
use Rattle.std.specs.Prelude.{not, filter, slice_get, int_le}
use Rattle.std.specs.List.{list_all}
use Rattle.std.proofs.lemmas.Bool.{and_parts, ltb-true, false≢true, true≢false, cases_lt, lt-ltb, eqb-true}
use Rattle.std.proofs.lemmas.Option.{slice_get_within}
use Rattle.std.proofs.lemmas.Int.{ints}
use Rattle.pals_base.specs.ExpressionValues.{same_number}
use Rattle.step_code.specs.declared.instr.Instr.{Instr}
use Rattle.step_code.specs.declared.instr.Instr.TheVariants.{Store, Jump, JumpZero, LoopStart, LoopNext, End}
use Rattle.step_code.specs.declared.loops.LoopSpan.{LoopSpan}
use Rattle.step_code.specs.Loops.{closes, loop_from, loop_at, with_loop, loops_below, around}
use Rattle.step_code.specs.proof.LoopNesting.{Free, On, Nests, IsNested}
use Rattle.step_code.specs.proof.VerifierRules.{inside, agrees, stays}
use Rattle.step_code.specs.proof.CleanJumpsAndLoops.{Jumps, IsEnd, Clean, IsClean}

same_int : (a b : ℤ) → same_number a b ≡ true → a ≡ b
same_int a b is = let both = and_parts (int_le a b) (int_le b a) is in grind (arith, ints)

-- ---- a loop
pub record IsLoop (code : List Instr) (k : ℕ) (l : LoopSpan) : Type 0 where
  pub start : l.start ≡ k
  pub exits : 0 < l.exit
  pub closed : closes l (slice_get code (l.exit - 1)) ≡ true
  pub opens : slice_get code k ≡ Some (LoopStart l.slot l.low l.high l.exit)

if_some : (b : Bool) (x y : LoopSpan) → (if b then Some x else None) ≡ Some y → (b ≡ true) × (x ≡ y)
if_some true x y is = (refl, cc)
if_some false x y is = cc

loop_by : (code : List Instr) (k : ℕ) (o : Option Instr) (l : LoopSpan) → slice_get code k ≡ o
    → loop_from code k o ≡ Some l
    → IsLoop code k l
loop_by code k (Some (LoopStart slot low high exit)) l at is =
    let m : LoopSpan = record { start = k; exit = exit; slot = slot; low = low; high = high } in
    let both = if_some (nat_lt 0 exit && closes m (slice_get code (exit - 1))) m l is in
    let parts = and_parts (nat_lt 0 exit) (closes m (slice_get code (exit - 1))) both.0 in
    subst (IsLoop code k) both.1
    (record { start = refl; exits = ltb-true 0 exit parts.0; closed = parts.1; opens = at })
loop_by code k None l at is = cc
loop_by code k (Some other) l at is = cc

pub loop_is : (code : List Instr) (k : ℕ) (l : LoopSpan) → loop_at code k ≡ Some l → IsLoop code k l
loop_is code k l is = loop_by code k (slice_get code k) l refl is

-- the instruction at the end of a loop
abbrev IsNext : LoopSpan → Option Instr → Type 0
IsNext l (Some (LoopNext slot high to)) = (slot ≡ l.slot) × (high ≡ l.high) × (to ≡ l.start + 1)
IsNext l other = ⊥

next_by : (l : LoopSpan) (o : Option Instr) → closes l o ≡ true → IsNext l o
next_by l (Some (LoopNext slot high to)) is =
    let parts = and_parts (nat_eq slot l.slot && same_number high l.high) (nat_eq to (l.start + 1)) is in
    let more = and_parts (nat_eq slot l.slot) (same_number high l.high) parts.0 in
    (eqb-true slot l.slot more.0, same_int high l.high more.1, eqb-true to (l.start + 1) parts.1)
next_by l None is = absurd (false≢true is)
next_by l (Some other) is = absurd (false≢true is)

-- ---- filters of loops
filter_step : (code : List Instr) (f g : LoopSpan → Bool) (m : ℕ) (o : Option LoopSpan) → loop_at code m ≡ o
    → ((l : LoopSpan) → m < suc m → loop_at code m ≡ Some l → f l ≡ g l)
    → filter f (loops_below code m) ≡ filter g (loops_below code m)
    → filter f (with_loop o (loops_below code m)) ≡ filter g (with_loop o (loops_below code m))
filter_step code f g m None is same rest = rest
filter_step code f g m (Some l) is same rest =
    ap (λ b. cond b (l ∷ filter f (loops_below code m)) (filter f (loops_below code m))) (same l (omega arith) is)
    ∙ ap (λ r. cond (g l) (l ∷ r) r) rest

drop_step : (code : List Instr) (f : LoopSpan → Bool) (m : ℕ) (o : Option LoopSpan)
    → ((l : LoopSpan) → loop_at code m ≡ Some l → f l ≡ false) → loop_at code m ≡ o
    → filter f (with_loop o (loops_below code m)) ≡ filter f (loops_below code m)
drop_step code f m None none is = refl
drop_step code f m (Some l) none is =
    ap (λ b. cond b (l ∷ filter f (loops_below code m)) (filter f (loops_below code m))) (none l is)

pub filter_below : (code : List Instr) (f g : LoopSpan → Bool) (m : ℕ)
    → ((k : ℕ) (l : LoopSpan) → k < m → loop_at code k ≡ Some l → f l ≡ g l)
    → filter f (loops_below code m) ≡ filter g (loops_below code m)
filter_below code f g zero same = refl
filter_below code f g (suc m) same =
    filter_step code f g m (loop_at code m) refl (same m)
    (filter_below code f g m (λ k l lt is. same k l (omega arith) is))

-- the loops that start from s on are dropped
drop_from : (code : List Instr) (f : LoopSpan → Bool) (s n : ℕ)
    → ((k : ℕ) (l : LoopSpan) → s ≤ k → k < s + n → loop_at code k ≡ Some l → f l ≡ false)
    → filter f (loops_below code (s + n)) ≡ filter f (loops_below code s)
drop_from code f s zero none = ap (λ k. filter f (loops_below code k)) (omega arith)
drop_from code f s (suc n) none =
    let e : s + suc n ≡ suc (s + n) = omega arith in
    ap (λ k. filter f (loops_below code k)) e
    ∙ drop_step code f (s + n) (loop_at code (s + n)) (λ l is. none (s + n) l (omega arith) (omega arith) is) refl
    ∙ drop_from code f s n (λ k l ge lt is. none k l ge (omega arith) is)

-- ---- instructions other than LoopNext
abbrev pub is_next : Instr → Bool
is_next (LoopNext slot high to) = true
is_next other = false

closes_next : (l : LoopSpan) (i : Instr) → closes l (Some i) ≡ true → is_next i ≡ true
closes_next l (LoopNext slot high to) is = refl
closes_next l other is = absurd (false≢true is)

-- no loop ends before such an instruction's next place
no_end : (code : List Instr) (p : ℕ) (i : Instr) (k : ℕ) (l : LoopSpan) → slice_get code p ≡ Some i → is_next i ≡ false
    → loop_at code k ≡ Some l → l.exit ≡ p + 1 → ⊥
no_end code p i k l is not_next opens ends =
    let facts = loop_is code k l opens in
    let place : l.exit - 1 ≡ p = omega arith in
    let closed : closes l (Some i) ≡ true = sym (ap (closes l) (ap (slice_get code) place ∙ is)) ∙ facts.closed in
    true≢false (sym (closes_next l i closed) ∙ not_next)

beyond : (p e : ℕ) → (e ≡ p + 1 → ⊥) → nat_lt (p + 1) e ≡ nat_lt p e
beyond p e not_next =
    ⊎_elim (λ (lt : p + 1 < e). grind arith) (λ (ge : e ≤ p + 1). let less : e ≤ p = omega arith in grind arith)
    (cases_lt (p + 1) e)

same_below : (code : List Instr) (p n : ℕ) (i : Instr) → slice_get code p ≡ Some i → is_next i ≡ false
    → filter (λ l. nat_lt (p + 1) l.exit) (loops_below code n) ≡ filter (λ l. nat_lt p l.exit) (loops_below code n)
same_below code p n i is not_next =
    filter_below code (λ l. nat_lt (p + 1) l.exit) (λ l. nat_lt p l.exit) n
    (λ k l lt opens. beyond p l.exit (no_end code p i k l is not_next opens))

around_next : (code : List Instr) (p : ℕ) (o : Option LoopSpan) → loop_at code p ≡ o
    → around code (p + 1) ≡ filter (λ l. nat_lt (p + 1) l.exit) (with_loop o (loops_below code p))
around_next code p o is =
    ap (λ k. filter (λ l. nat_lt (p + 1) l.exit) (loops_below code k)) (add-one p)
    ∙ ap (λ o. filter (λ l. nat_lt (p + 1) l.exit) (with_loop o (loops_below code p))) is

plain_same : (code : List Instr) (p : ℕ) (i : Instr) → slice_get code p ≡ Some i → is_next i ≡ false
    → loop_at code p ≡ None → around code (p + 1) ≡ around code p
plain_same code p i is not_next none = around_next code p None none ∙ same_below code p p i is not_next

start_inside : (code : List Instr) (p : ℕ) (i : Instr) (l : LoopSpan) → slice_get code p ≡ Some i → is_next i ≡ false
    → loop_at code p ≡ Some l → p < l.exit → around code (p + 1) ≡ l ∷ around code p
start_inside code p i l is not_next opens later =
    let lies : nat_lt (p + 1) l.exit ≡ true = beyond p l.exit (no_end code p i p l is not_next opens)
    ∙ lt-ltb p l.exit later in
    around_next code p (Some l) opens
    ∙ ap (λ b. cond b (l ∷ filter (λ m. nat_lt (p + 1) m.exit) (loops_below code p))
    (filter (λ m. nat_lt (p + 1) m.exit) (loops_below code p))) lies
    ∙ ap (λ r. l ∷ r) (same_below code p p i is not_next)

-- ---- the loops round a place, among all
inside_below : (code : List Instr) (p n : ℕ) → filter (inside p) (loops_below code (p + n)) ≡ around code p
inside_below code p n =
    drop_from code (inside p) p n
    (λ k l ge lt opens. let start = (loop_is code k l opens).start in let not_yet : p ≤ l.start = omega arith in
    ap (λ b. b && nat_lt p l.exit) (let e : nat_lt l.start p ≡ false = grind arith in e))
    ∙ filter_below code (inside p) (λ l. nat_lt p l.exit) p
    (λ k l lt opens. let start = (loop_is code k l opens).start in let before : l.start < p = omega arith in
    ap (λ b. b && nat_lt p l.exit) (let e : nat_lt l.start p ≡ true = grind arith in e))

pub agree_same : (b c : Bool) → (if b then c else not c) ≡ true → b ≡ c
agree_same true true is = refl
agree_same true false is = absurd (false≢true is)
agree_same false true is = absurd (false≢true is)
agree_same false false is = refl

agree_all : (p q : ℕ) (ls : List LoopSpan) → list_all (agrees p q) ls ≡ true
    → filter (inside p) ls ≡ filter (inside q) ls
agree_all p q [] is = refl
agree_all p q (l ∷ ls) is =
    let both = and_parts (agrees p q l) (list_all (agrees p q) ls) is in
    ap (λ b. cond b (l ∷ filter (inside p) ls) (filter (inside p) ls)) (agree_same (inside p l) (inside q l) both.0)
    ∙ ap (λ r. cond (inside q l) (l ∷ r) r) (agree_all p q ls both.1)

pub stays_around : (code : List Instr) (p q : ℕ) → p < length code → q < length code → stays code p q ≡ true
    → around code q ≡ around code p
stays_around code p q inp inq is =
    let ep : p + (length code - p) ≡ length code = omega arith in
    let eq : q + (length code - q) ≡ length code = omega arith in
    sym (inside_below code q (length code - q)) ∙ ap (λ k. filter (inside q) (loops_below code k)) eq
    ∙ sym (agree_all p q (loops_below code (length code)) is)
    ∙ sym (ap (λ k. filter (inside p) (loops_below code k)) ep) ∙ inside_below code p (length code - p)

-- ---- the end of a loop
all_step : (f : LoopSpan → Bool) (code : List Instr) (m k : ℕ) (o : Option LoopSpan) (l : LoopSpan) → loop_at code m ≡ o
    → list_all f (with_loop o (loops_below code m)) ≡ true
    → (list_all f (loops_below code m) ≡ true → k < m → f l ≡ true) → k < suc m → loop_at code k ≡ Some l → f l ≡ true
all_step f code m k None l at all below lt is =
    ⊎_elim (λ (less : k < m). below all less)
    (λ (ge : m ≤ k). let same : k ≡ m = omega arith in
    let no : ◌≡◌ {A = Option LoopSpan} None (Some l) = sym at ∙ ap (loop_at code) (sym same) ∙ is in cc)
    (cases_lt k m)
all_step f code m k (Some x) l at all below lt is =
    let both = and_parts (f x) (list_all f (loops_below code m)) all in
    ⊎_elim (λ (less : k < m). below both.1 less)
    (λ (ge : m ≤ k). let same : k ≡ m = omega arith in
    let yes : Some x ≡ Some l = sym at ∙ ap (loop_at code) (sym same) ∙ is in let e : x ≡ l = cc in
    subst (λ y. f y ≡ true) e both.0) (cases_lt k m)

pub all_below : (f : LoopSpan → Bool) (code : List Instr) (m k : ℕ) (l : LoopSpan)
    → list_all f (loops_below code m) ≡ true
    → k < m → loop_at code k ≡ Some l → f l ≡ true
all_below f code zero k l all lt is = absurd (omega arith)
all_below f code (suc m) k l all lt is =
    all_step f code m k (loop_at code m) l refl all (λ all less. all_below f code m k l all less is) lt is

free_cons : (f : LoopSpan → Bool) (x : ℕ) (l : LoopSpan) (b : Bool) (rest : List LoopSpan) → (l.slot ≡ x → ⊥)
    → Free rest x
    → Free (cond b (l ∷ rest) rest) x
free_cons f x l true rest apart free = (apart, free)
free_cons f x l false rest apart free = free

module _ (code : List Instr) (vars : ℕ) (clean : IsClean code vars) where
  start_jumps : (k : ℕ) (l : LoopSpan) → loop_at code k ≡ Some l → Jumps code k l.exit × (vars ≤ l.slot)
  start_jumps k l is = let c =
      clean.each k (LoopStart l.slot l.low l.high l.exit) (loop_is code k l is).opens in (c.0, c.3)

  -- a loop that starts within a body ends within it
  inner_ends : (s k : ℕ) (l m : LoopSpan) → loop_at code s ≡ Some l → loop_at code k ≡ Some m → s < k → k < l.exit
      → m.exit < l.exit
  inner_ends s k l m outer inner later within =
      let jumps = (start_jumps k m inner).0 in
      let there = jumps.there in
      let start = (loop_is code s l outer).start in
      let n_s : s < length code = slice_get_within code s _ (loop_is code s l outer).opens in
      let same =
      agree_same (inside k l) (inside m.exit l)
      (all_below (agrees k m.exit) code (length code) s l jumps.within n_s outer) in
      let lies : inside k l ≡ true = ap (λ x. x && nat_lt k l.exit) (lt-ltb l.start k (omega arith))
      ∙ lt-ltb k l.exit within in
      ltb-true m.exit l.exit (and_parts (nat_lt l.start m.exit) (nat_lt m.exit l.exit) (sym same ∙ lies)).1

  -- the loops round the last place of a body, seen from a place q there
  seen_from : (p q s : ℕ) (l : LoopSpan) (slot to : ℕ) (high : ℤ) → slice_get code p ≡ Some (LoopNext slot high to)
      → loop_at code s ≡ Some l → s < p → l.exit ≡ p + 1 → p ≤ q
      → filter (λ m. nat_lt q m.exit) (loops_below code p)
      ≡ cond (nat_lt q l.exit) (l ∷ filter (λ m. nat_lt q m.exit) (loops_below code s))
      (filter (λ m. nat_lt q m.exit) (loops_below code s))
  seen_from p q s l slot to high is opens below ends at =
      let n = p - s - 1 in
      let e : p ≡ suc s + n = omega arith in
      ap (λ k. filter (λ m. nat_lt q m.exit) (loops_below code k)) e
      ∙ drop_from code (λ m. nat_lt q m.exit) (suc s) n
      (λ k m ge lt inner. let less = inner_ends s k l m opens inner (omega arith) (omega arith) in
      let no : m.exit ≤ q = omega arith in let r : nat_lt q m.exit ≡ false = grind arith in r)
      ∙ ap (λ o. filter (λ m. nat_lt q m.exit) (with_loop o (loops_below code s))) opens

  -- only one loop ends there
  one_ends : (p s k : ℕ) (l m : LoopSpan) (slot to : ℕ) (high : ℤ) → slice_get code p ≡ Some (LoopNext slot high to)
      → loop_at code s ≡ Some l → l.exit ≡ p + 1 → loop_at code k ≡ Some m → k < s → m.exit ≡ p + 1 → ⊥
  one_ends p s k l m slot to high is opens ends opens' less ends' =
      let fl = loop_is code s l opens in
      let fm = loop_is code k m opens' in
      let pl : l.exit - 1 ≡ p = omega arith in
      let pm : m.exit - 1 ≡ p = omega arith in
      let nl =
      next_by l (Some (LoopNext slot high to)) (sym (ap (closes l) (ap (slice_get code) pl ∙ is)) ∙ fl.closed) in
      let nm =
      next_by m (Some (LoopNext slot high to)) (sym (ap (closes m) (ap (slice_get code) pm ∙ is)) ∙ fm.closed) in
      let a = nl.2 in let b = nm.2 in let c = fl.start in let d = fm.start in
      omega arith

  ends_inside : (p : ℕ) (slot to : ℕ) (high : ℤ) → slice_get code p ≡ Some (LoopNext slot high to) → (e : IsEnd code p)
      → around code p ≡ e.loop ∷ around code (p + 1)
  ends_inside p slot to high is e =
      let l = e.loop in
      let s = e.start in
      let ends = e.exit in
      let below = e.below in
      let yes : nat_lt p l.exit ≡ true = (let lt : p < l.exit = omega arith in grind arith) in
      let no : nat_lt (p + 1) l.exit ≡ false = (let ge : l.exit ≤ p + 1 = omega arith in grind arith) in
      let none : loop_at code p ≡ None = ap (loop_from code p) is in
      let here =
      seen_from p p s l slot to high is e.opens e.below e.exit (omega arith)
      ∙ ap (λ b. cond b (l ∷ filter (λ m. nat_lt p m.exit) (loops_below code s))
      (filter (λ m. nat_lt p m.exit) (loops_below code s))) yes in
      let next =
      around_next code p None none ∙ seen_from p (p + 1) s l slot to high is e.opens e.below e.exit (omega arith)
      ∙ ap (λ b. cond b (l ∷ filter (λ m. nat_lt (p + 1) m.exit) (loops_below code s))
      (filter (λ m. nat_lt (p + 1) m.exit) (loops_below code s))) no in
      let same =
      filter_below code (λ m. nat_lt (p + 1) m.exit) (λ m. nat_lt p m.exit) s
      (λ k m lt opens. beyond p m.exit (one_ends p s k l m slot to high is e.opens e.exit opens lt)) in
      here ∙ ap (λ r. l ∷ r) (sym (next ∙ same))

  -- variables are not slots of loops
  free_step : (f : LoopSpan → Bool) (x m : ℕ) (o : Option LoopSpan) → loop_at code m ≡ o → x < vars
      → Free (filter f (loops_below code m)) x → Free (filter f (with_loop o (loops_below code m))) x
  free_step f x m None is small rest = rest
  free_step f x m (Some l) is small rest =
      free_cons f x l (f l) (filter f (loops_below code m))
      (let above = (start_jumps m l is).1 in λ e. absurd (omega arith)) rest

  free_below : (f : LoopSpan → Bool) (x m : ℕ) → x < vars → Free (filter f (loops_below code m)) x
  free_below f x zero small = tt
  free_below f x (suc m) small = free_step f x m (loop_at code m) refl small (free_below f x m small)

  on_jump : (p q : ℕ) (i : Instr) → slice_get code p ≡ Some i → Jumps code p q → On code p q
  on_jump p q i is j =
      record {
        later = j.forward;
        within = j.there;
        same = stays_around code p q (slice_get_within code p i is) j.there j.within;
      }

  on_fall : (p : ℕ) (i : Instr) → slice_get code p ≡ Some i → is_next i ≡ false → loop_at code p ≡ None
      → p + 1 < length code → On code p (p + 1)
  on_fall p i is not_next none within =
      record { later = omega arith; within = within; same = plain_same code p i is not_next none }

  nests : (p : ℕ) (i : Instr) → slice_get code p ≡ Some i → Clean code vars p i → Nests code p i
  nests p (Jump to) is c = on_jump p to (Jump to) is c
  nests p (JumpZero to) is c =
      (on_jump p to (JumpZero to) is c.0, on_fall p (JumpZero to) is refl (ap (loop_from code p) is) c.1)
  nests p (LoopStart slot low high exit) is c =
      let l = c.2.0 in
      let opens = c.2.1 in
      let facts = loop_is code p l opens in
      let same : Some (LoopStart slot low high exit) ≡ Some (LoopStart l.slot l.low l.high l.exit) = sym is
      ∙ facts.opens in (
        on_jump p exit (LoopStart slot low high exit) is c.0,
        c.1,
        record {
          loop = l;
          inside = start_inside code p (LoopStart slot low high exit) l is refl opens (start_jumps p l opens).0.forward;
          start = facts.start;
          exit_is = cc;
          slot_is = cc;
          low_is = cc;
          high_is = cc;
          free = c.4;
        },
      )
  nests p (LoopNext slot high to) is c =
      let e = c.1 in
      let l = e.loop in
      let fl = loop_is code e.start l e.opens in
      let ends = e.exit in
      let place : l.exit - 1 ≡ p = omega arith in
      let nl =
      next_by l (Some (LoopNext slot high to)) (sym (ap (closes l) (ap (slice_get code) place ∙ is)) ∙ fl.closed) in
      let here = ends_inside p slot to high is e in
      let back : to ≡ e.start + 1 = nl.2 ∙ ap (λ k. k + 1) fl.start in
      let below = e.below in
      let p_in : p < length code = slice_get_within code p _ is in
      let first : around code to ≡ l ∷ around code e.start = ap (around code) back
      ∙ start_inside code e.start (LoopStart l.slot l.low l.high l.exit) l fl.opens refl e.opens
      (start_jumps e.start l e.opens).0.forward in
      let out : around code (p + 1) ≡ around code e.start = ap (around code) (sym ends)
      ∙ stays_around code e.start l.exit (omega arith) (start_jumps e.start l e.opens).0.there
      (start_jumps e.start l e.opens).0.within in (
        c.0,
        record {
          loop = l;
          inside = here;
          exit_is = ends;
          slot_is = sym nl.0;
          high_is = sym nl.1;
          opens = subst (λ k. slice_get code k ≡ Some (LoopStart l.slot l.low l.high l.exit)) (sym fl.start) fl.opens;
          before = (let st = fl.start in omega arith);
          back = nl.2;
          within = omega arith;
          same = first ∙ ap (λ r. l ∷ r) (sym out) ∙ sym here;
          free =
              subst (λ ls. Free ls slot) (sym out)
              (subst (Free (around code e.start)) (sym nl.0)
              (clean.each e.start (LoopStart l.slot l.low l.high l.exit) fl.opens).4);
        },
      )
  nests p (Store x) is c =
      (on_fall p (Store x) is refl (ap (loop_from code p) is) c.0, free_below (λ l. nat_lt p l.exit) x p c.1)
  nests p (End state) is c = tt
  nests p other is c = on_fall p other is refl (ap (loop_from code p) is) c

  pub clean_nested : IsNested code
  clean_nested = record { each = λ p i is. nests p i is (clean.each p i is) }
