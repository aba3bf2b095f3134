-- A run of nested code ends within as many instructions as its heaviest path weighs: for the claim that a step is
-- within the weight.
use Rattle.std.proofs.Common.{◌≡◌, ◌∙◌, ℕ, zero, suc, ◌+◌, ◌-◌, ◌*◌, ◌<◌, ◌≤◌, ℤ, pos, negsuc, ◌+ℤ◌, ◌-ℤ◌, Bool, true}
use Rattle.std.proofs.Common.{false, if◌then◌else◌, List, [], ◌∷◌, length, map, Option, Some, None, refl, sym, ap}
use Rattle.std.proofs.Common.{subst, arith}
use Rattle.std.specs.Prelude.{slice_get, slice_set, int_lt, Result, Ok, Err}
use Rattle.std.proofs.lemmas.Int.{ints}
use Rattle.std.proofs.Math.Nat.{mul-le-mul_left, le_of_mul-le-mul_left, mul-add, mul_left_comm}
use Rattle.pals_base.specs.declared.basic_types.Trap.{Trap}
use Rattle.pals_base.specs.declared.basic_types.PortValue.{PortValue as Value}
use Rattle.pals_base.specs.declared.behaviour.Op.{Op}
use Rattle.pals_base.specs.declared.behaviour.Op.TheVariants as op
use Rattle.pals_base.specs.Arithmetic.{negation_of, magnitude_of}
use Rattle.pals_base.specs.ExpressionValues.{is_true, applied}
use Rattle.pals_base.specs.ForRanges.{count_of}
use Rattle.step_code.specs.declared.instr.Instr.{Instr}
use Rattle.step_code.specs.declared.instr.Instr.TheVariants.{Push, Load, Store, Port, Fresh, Neg, Abs, Not, Add, Sub}
use Rattle.step_code.specs.declared.instr.Instr.TheVariants.{Mul, Quot, Mod, Rem, Eq, Ne, Lt, Le, Gt, Ge, And, Or, Xor}
use Rattle.step_code.specs.declared.instr.Instr.TheVariants.{Jump, JumpZero, LoopStart, LoopNext, Emit, End}
use Rattle.step_code.specs.InstructionEffects.{Next, Goes, Ends, Traps, Sticks, StepInputs, on_top, on_found, on_result}
use Rattle.step_code.specs.InstructionEffects.{on_two, step}
use Rattle.step_code.specs.declared.loops.LoopSpan.{LoopSpan}
use Rattle.step_code.specs.Loops.{turns_of, around}
use Rattle.step_code.specs.SuccessorsAndWeights.{forward_successors, forward_successors_at, product, greatest}
use Rattle.step_code.specs.SuccessorsAndWeights.{weight_at, heaviest}
use Rattle.step_code.specs.proof.CodeRuns.{Continuation, then_run, run, IsOver}
use Rattle.step_code.specs.proof.LoopNesting.{Free, On, Opens, Closes, Nests, IsNested}
use Rattle.step_code.proofs.ListMembers.{get_set_other, get_set_same}

-- ---- what an instruction may lead to
abbrev pub Reached : (ℕ → List ℤ → Type 0) → Next → Type 0
Reached P (Goes q stack slots outs) = P q slots
Reached P (Ends state slots outs) = Unit {0}
Reached P (Traps trap) = Unit {0}
Reached P Sticks = Unit {0}

top_reached : (P : ℕ → List ℤ → Type 0) (stack : List ℤ) (go : ℤ → List ℤ → Next)
    → ((v : ℤ) (rest : List ℤ) → Reached P (go v rest)) → Reached P (on_top stack go)
top_reached P [] go h = tt
top_reached P (v ∷ rest) go h = h v rest

found_reached : {A : Type 0} (P : ℕ → List ℤ → Type 0) (o : Option A) (go : A → Next)
    → ((x : A) → o ≡ Some x → Reached P (go x)) → Reached P (on_found o go)
found_reached P None go h = tt
found_reached P (Some x) go h = h x refl

result_reached : (P : ℕ → List ℤ → Type 0) (r : Result ℤ Trap) (go : ℤ → Next) → ((v : ℤ) → Reached P (go v))
    → Reached P (on_result r go)
result_reached P (Ok v) go h = h v
result_reached P (Err trap) go h = tt

if_reached : (P : ℕ → List ℤ → Type 0) (b : Bool) (x y : Next) → (b ≡ true → Reached P x) → (b ≡ false → Reached P y)
    → Reached P (if b then x else y)
if_reached P true x y h k = h refl
if_reached P false x y h k = k refl

two_reached : (P : ℕ → List ℤ → Type 0) (o : Op) (p : ℕ) (stack slots : List ℤ) (outs : List Value) → P (p + 1) slots
    → Reached P (on_two o p stack slots outs)
two_reached P o p stack slots outs h =
    top_reached P stack _ (λ b below. top_reached P below _ (λ a rest. result_reached P (applied o a b) _ (λ v. h)))

-- the condition on the successor of an instruction
abbrev Needs : (ℕ → List ℤ → Type 0) → ℕ → List ℤ → Instr → Type 0
Needs P p slots (Jump to) = P to slots
Needs P p slots (JumpZero to) = P to slots × P (p + 1) slots
Needs P p slots (LoopStart slot low high exit) =
    P exit slots × (int_lt high low ≡ false → (v : ℤ) → slice_get slots slot ≡ Some v
    → P (p + 1) (slice_set slots slot low))
Needs P p slots (LoopNext slot high to) =
    (v : ℤ) → slice_get slots slot ≡ Some v
    → (int_lt v high ≡ true → P to (slice_set slots slot (v +ℤ pos 1))) × (int_lt v high ≡ false → P (p + 1) slots)
Needs P p slots (Store x) = (v : ℤ) → P (p + 1) (slice_set slots x v)
Needs P p slots (End state) = Unit {0}
Needs P p slots other = P (p + 1) slots

step_reached : (P : ℕ → List ℤ → Type 0) (s : StepInputs) (i : Instr) (p : ℕ) (stack slots : List ℤ) (outs : List Value)
    → Needs P p slots i → Reached P (step (Some i) s p stack slots outs)
step_reached P s (Push v) p stack slots outs h = h
step_reached P s (Load x) p stack slots outs h = found_reached P (slice_get slots x) _ (λ v is. h)
step_reached P s (Store x) p stack slots outs h =
    found_reached P (slice_get slots x) _ (λ b is. top_reached P stack _ (λ v rest. h v))
step_reached P s (Port x) p stack slots outs h = found_reached P (slice_get s.held x) _ (λ v is. h)
step_reached P s (Fresh x) p stack slots outs h = found_reached P (slice_get s.fresh x) _ (λ v is. h)
step_reached P s Neg p stack slots outs h =
    top_reached P stack _ (λ a rest. result_reached P (negation_of a) _ (λ v. h))
step_reached P s Abs p stack slots outs h =
    top_reached P stack _ (λ a rest. result_reached P (magnitude_of a) _ (λ v. h))
step_reached P s Not p stack slots outs h = top_reached P stack _ (λ a rest. h)
step_reached P s Add p stack slots outs h = two_reached P op.Add p stack slots outs h
step_reached P s Sub p stack slots outs h = two_reached P op.Sub p stack slots outs h
step_reached P s Mul p stack slots outs h = two_reached P op.Mul p stack slots outs h
step_reached P s Quot p stack slots outs h = two_reached P op.Quot p stack slots outs h
step_reached P s Mod p stack slots outs h = two_reached P op.Mod p stack slots outs h
step_reached P s Rem p stack slots outs h = two_reached P op.Rem p stack slots outs h
step_reached P s Eq p stack slots outs h = two_reached P op.Eq p stack slots outs h
step_reached P s Ne p stack slots outs h = two_reached P op.Ne p stack slots outs h
step_reached P s Lt p stack slots outs h = two_reached P op.Lt p stack slots outs h
step_reached P s Le p stack slots outs h = two_reached P op.Le p stack slots outs h
step_reached P s Gt p stack slots outs h = two_reached P op.Gt p stack slots outs h
step_reached P s Ge p stack slots outs h = two_reached P op.Ge p stack slots outs h
step_reached P s And p stack slots outs h = two_reached P op.And p stack slots outs h
step_reached P s Or p stack slots outs h = two_reached P op.Or p stack slots outs h
step_reached P s Xor p stack slots outs h = two_reached P op.Xor p stack slots outs h
step_reached P s (Jump to) p stack slots outs h = h
step_reached P s (JumpZero to) p stack slots outs h =
    top_reached P stack _ (λ v rest. if_reached P (is_true v) _ _ (λ e. h.1) (λ e. h.0))
step_reached P s (LoopStart slot low high exit) p stack slots outs h =
    if_reached P (int_lt high low) _ _ (λ e. h.0) (λ e. found_reached P (slice_get slots slot) _ (λ v is. h.1 e v is))
step_reached P s (LoopNext slot high to) p stack slots outs h =
    found_reached P (slice_get slots slot) _ (λ v is. if_reached P (int_lt v high) _ _ (h v is).0 (h v is).1)
step_reached P s (Emit x) p stack slots outs h =
    found_reached P (slice_get outs x) _ (λ b is. top_reached P stack _ (λ v rest. h))
step_reached P s (End state) p stack slots outs h = tt

over : (rest : Continuation) (next : Next)
    → Reached (λ q slots. (stack : List ℤ) (outs : List Value) → IsOver (rest q stack slots outs)) next
    → IsOver (then_run next rest)
over rest (Goes q stack slots outs) h = h stack outs
over rest (Ends state slots outs) h = tt
over rest (Traps trap) h = tt
over rest Sticks h = tt

-- ---- weights
greatest_more : (f g : ℕ → ℕ) → ((q : ℕ) → f q ≤ g q) → (qs : List ℕ) → greatest (map f qs) ≤ greatest (map g qs)
greatest_more f g more [] = omega arith
greatest_more f g more (q ∷ qs) = let here = more q in let rest = greatest_more f g more qs in omega arith

heaviest_more : (code : List Instr) (m n p : ℕ) → m ≤ n → heaviest code m p ≤ heaviest code n p
heaviest_more code zero n p le = omega arith
heaviest_more code (suc m) zero p le = absurd (omega arith)
heaviest_more code (suc m) (suc n) p le =
    let rest =
    greatest_more (heaviest code m) (heaviest code n) (λ q. heaviest_more code m n q (omega arith))
    (forward_successors_at code p) in omega arith

-- the weight of the heaviest path from a place
abbrev best : List Instr → ℕ → ℕ
best code p = heaviest code (length code - p) p

best_here : (code : List Instr) (p : ℕ) → p < length code → weight_at code p ≤ best code p
best_here code p within =
    let e : length code - p ≡ suc (length code - p - 1) = omega arith in
    let f = ap (λ k. heaviest code k p) e in
    omega arith

best_on : (code : List Instr) (p q : ℕ) (i : Instr) → slice_get code p ≡ Some i
    → ((f : ℕ → ℕ) → f q ≤ greatest (map f (forward_successors p (Some i)))) → p < q → q < length code
    → weight_at code p + best code q ≤ best code p
best_on code p q i is among later within =
    let m = length code - p - 1 in
    let e : length code - p ≡ suc m = omega arith in
    let f = ap (λ k. heaviest code k p) e in
    let g = ap (λ o. greatest (map (heaviest code m) (forward_successors p o))) is in
    let h = among (heaviest code m) in
    let more = heaviest_more code (length code - q) m q (omega arith) in
    omega arith

-- ---- remaining turns
-- the slots of these loops hold numbers of theirs; the weight of all turns but the present ones
abbrev TurnsLeft : List Instr → List ℤ → List LoopSpan → ℕ → Type 0
TurnsLeft code slots [] rest = rest ≡ 0
TurnsLeft code slots (l ∷ ls) rest =
    (ahead : ℕ) × (done : ℕ) × (outer : ℕ) × (slice_get slots l.slot ≡ Some (l.low +ℤ pos done))
    × (l.high ≡ l.low +ℤ pos (ahead + done)) × (turns_of l ≡ ahead + done + 1)
    × (rest ≡ ahead * best code (l.start + 1) + done * best code l.exit + turns_of l * outer)
    × TurnsLeft code slots ls outer

stands_other : (code : List Instr) (slots : List ℤ) (x : ℕ) (v : ℤ) (ls : List LoopSpan) (rest : ℕ) → Free ls x
    → TurnsLeft code slots ls rest → TurnsLeft code (slice_set slots x v) ls rest
stands_other code slots x v [] rest free st = st
stands_other code slots x v (l ∷ ls) rest free st = (
  st.0,
  st.1,
  st.2,
  get_set_other slots x l.slot v (λ e. free.0 (sym e)) ∙ st.3,
  st.4,
  st.5,
  st.6,
  stands_other code slots x v ls st.2 free.1 st.7,
)

product_positive : (code : List Instr) (slots : List ℤ) (ls : List LoopSpan) (rest : ℕ) → TurnsLeft code slots ls rest
    → 0 < product (map turns_of ls)
product_positive code slots [] rest st = omega arith
product_positive code slots (l ∷ ls) rest st =
    let more = product_positive code slots ls st.2 st.7 in
    let t = st.5 in
    let k = mul-le-mul_left (turns_of l) more in
    omega arith

-- ---- the sums
on_sum : (n m a b rest : ℕ) → m + b ≤ a → a + rest ≤ suc n * m → b + rest ≤ n * m
on_sum n m a b rest on le = omega arith

-- a loop of k + 1 turns begins: b is its body's weight
open_sum : (n m a b e outer k t : ℕ) → t ≡ k + 1 → m + b ≤ a → a + outer ≤ suc n * m
    → b + (k * b + 0 * e + t * outer) ≤ n * (t * m)
open_sum n m a b e outer k t is on le =
    let one : b + outer ≤ n * m = omega arith in
    let all = mul-le-mul_left (suc k) one in
    let two = mul-add (suc k) b outer in
    let three : suc k * (n * m) ≡ n * (suc k * m) = mul_left_comm (suc k) n m in
    let sum : b + (k * b + 0 * e + suc k * outer) ≤ n * (suc k * m) = omega arith in
    let t_is : suc k ≡ t = omega arith in
    subst (λ x. b + (k * b + 0 * e + x * outer) ≤ n * (x * m)) t_is sum

-- one more turn
turn_sum : (n m a b e ahead done rest : ℕ) → m + e ≤ a → a + (suc ahead * b + done * e + rest) ≤ suc n * m
    → b + (ahead * b + suc done * e + rest) ≤ n * m
turn_sum n m a b e ahead done rest on le = omega arith

-- the last turn ends
close_sum : (n m a b e outer done t : ℕ) → t ≡ done + 1 → t * m + e ≤ a
    → a + (0 * b + done * e + t * outer) ≤ suc n * (t * m) → e + outer ≤ n * m
close_sum n m a b e outer done t is on le =
    let t_is : t ≡ suc done = omega arith in
    let two = mul-add (suc done) e outer in
    let three : suc done * (n * m) ≡ n * (suc done * m) = mul_left_comm (suc done) n m in
    let on' : suc done * m + e ≤ a = subst (λ x. x * m + e ≤ a) t_is on in
    let le' : a + (0 * b + done * e + suc done * outer) ≤ suc n * (suc done * m) =
    subst (λ x. a + (0 * b + done * e + x * outer) ≤ suc n * (x * m)) t_is le in
    let all : suc done * (e + outer) ≤ suc done * (n * m) = omega arith in
    le_of_mul-le-mul_left all (omega arith)

-- ---- the ends of a loop
spans_by : (low high d : ℤ) → high -ℤ low ≡ d → int_lt high low ≡ false
    → (k : ℕ) × (high ≡ low +ℤ pos k) × (count_of d ≡ k + 1)
spans_by low high (pos k) is above = (k, omega (arith, ints), omega arith)
spans_by low high (negsuc k) is above = absurd (grind (arith, ints))

pub spans : (low high : ℤ) → int_lt high low ≡ false
    → (k : ℕ) × (high ≡ low +ℤ pos k) × (count_of (high -ℤ low) ≡ k + 1)
spans low high above = spans_by low high (high -ℤ low) refl above

still : (low high v : ℤ) (ahead done : ℕ) → v ≡ low +ℤ pos done → high ≡ low +ℤ pos (ahead + done)
    → int_lt v high ≡ true → (k : ℕ) × (ahead ≡ suc k)
still low high v zero done is top below = absurd (grind (arith, ints))
still low high v (suc k) done is top below = (k, refl)

last : (low high v : ℤ) (ahead done : ℕ) → v ≡ low +ℤ pos done → high ≡ low +ℤ pos (ahead + done)
    → int_lt v high ≡ false → ahead ≡ 0
last low high v zero done is top above = refl
last low high v (suc k) done is top above = absurd (grind (arith, ints))

-- ---- the run
abbrev Within : List Instr → StepInputs → ℕ → Type 0
Within code s n =
    (p : ℕ) (stack slots : List ℤ) (outs : List Value) (rest : ℕ) → p < length code
    → TurnsLeft code slots (around code p) rest → best code p + rest ≤ n * weight_at code p
    → IsOver (run code s n p stack slots outs)

-- the remaining weight at a successor of an instruction within the same loops
onto : (code : List Instr) (s : StepInputs) (n p q : ℕ) (i : Instr) (slots : List ℤ) (rest : ℕ) → Within code s n
    → slice_get code p ≡ Some i
    → ((f : ℕ → ℕ) → f q ≤ greatest (map f (forward_successors p (Some i)))) → On code p q
    → TurnsLeft code slots (around code p) rest → best code p + rest ≤ suc n * weight_at code p
    → (stack : List ℤ) (outs : List Value) → IsOver (run code s n q stack slots outs)
onto code s n p q i slots rest again is among on stands le stack outs =
    let same : weight_at code q ≡ weight_at code p = ap (λ ls. product (map turns_of ls)) on.same in
    let less =
    on_sum n (weight_at code p) (best code p) (best code q) rest
    (best_on code p q i is among on.later on.within) le in
    again q stack slots outs rest on.within (subst (λ ls. TurnsLeft code slots ls rest) (sym on.same) stands)
    (subst (λ w. best code q + rest ≤ n * w) (sym same) less)

begins : (code : List Instr) (s : StepInputs) (n p slot exit : ℕ) (low high : ℤ) (slots : List ℤ) (rest : ℕ)
    → Within code s n → slice_get code p ≡ Some (LoopStart slot low high exit)
    → p + 1 < length code → Opens code p slot low high exit
    → TurnsLeft code slots (around code p) rest → best code p + rest ≤ suc n * weight_at code p
    → int_lt high low ≡ false → (v : ℤ) → slice_get slots slot ≡ Some v
    → (stack : List ℤ) (outs : List Value) → IsOver (run code s n (p + 1) stack (slice_set slots slot low) outs)
begins code s n p slot exit low high slots rest again is within o stands le above v found stack outs =
    let l = o.loop in
    let sp = spans low high above in
    let k = sp.0 in
    let written = slice_set slots slot low in
    let ls = around code p in
    let inner : ℕ = k * best code (l.start + 1) + 0 * best code l.exit + turns_of l * rest in
    let zero_more : low ≡ low +ℤ pos 0 = omega (arith, ints) in
    let at : slice_get written l.slot ≡ Some (l.low +ℤ pos 0) =
    ap (λ x. slice_get written x) o.slot_is ∙ get_set_same slots slot low v found
    ∙ ap Some (zero_more ∙ ap (λ x. x +ℤ pos 0) (sym o.low_is)) in
    let add0 : k ≡ k + 0 = omega arith in
    let top : l.high ≡ l.low +ℤ pos (k + 0) = o.high_is ∙ sp.1 ∙ ap (λ x. x +ℤ pos k) (sym o.low_is)
    ∙ ap (λ j. l.low +ℤ pos j) add0 in
    let turns : turns_of l ≡ k + 1 = ap (λ h. count_of (h -ℤ l.low)) o.high_is
    ∙ ap (λ b. count_of (high -ℤ b)) o.low_is ∙ sp.2 in
    let turns' : turns_of l ≡ k + 0 + 1 = omega arith in
    let stands' : TurnsLeft code written (l ∷ ls) inner =
    (k, 0, rest, at, top, turns', refl, stands_other code slots slot low ls rest o.free stands) in
    let on = best_on code p (p + 1) (LoopStart slot low high exit) is (λ f. omega arith) (omega arith) within in
    let body : best code (p + 1) ≡ best code (l.start + 1) = ap (λ x. best code (x + 1)) (sym o.start) in
    let on' : weight_at code p + best code (l.start + 1) ≤ best code p = omega arith in
    let sum =
    open_sum n (weight_at code p) (best code p) (best code (l.start + 1)) (best code l.exit) rest k (turns_of l)
    turns on' le in
    let w : weight_at code (p + 1) ≡ turns_of l * weight_at code p = ap (λ ls. product (map turns_of ls)) o.inside in
    let sum' : best code (p + 1) + inner ≤ n * (turns_of l * weight_at code p) =
    subst (λ x. x + inner ≤ n * (turns_of l * weight_at code p)) (sym body) sum in
    again (p + 1) stack written outs inner within (subst (λ ls. TurnsLeft code written ls inner) (sym o.inside) stands')
    (subst (λ x. best code (p + 1) + inner ≤ n * x) (sym w) sum')

-- another turn of a loop
turns_again : (code : List Instr) (s : StepInputs) (n p slot to : ℕ) (high : ℤ) (slots : List ℤ) (rest : ℕ)
    → Within code s n → slice_get code p ≡ Some (LoopNext slot high to)
    → p + 1 < length code → (c : Closes code p slot high to)
    → TurnsLeft code slots (c.loop ∷ around code (p + 1)) rest → best code p + rest ≤ suc n * weight_at code p
    → (v : ℤ) → slice_get slots slot ≡ Some v → int_lt v high ≡ true
    → (stack : List ℤ) (outs : List Value) → IsOver (run code s n to stack (slice_set slots slot (v +ℤ pos 1)) outs)
turns_again code s n p slot to high slots rest again is within c stands le v found below stack outs =
    let l = c.loop in
    let ls = around code (p + 1) in
    let done = stands.1 in
    let outer = stands.2 in
    let read : Some v ≡ Some (l.low +ℤ pos done) = sym found ∙ ap (λ x. slice_get slots x) (sym c.slot_is) ∙ stands.3 in
    let value : v ≡ l.low +ℤ pos done = cc in
    let more = still l.low high v stands.0 done value (sym c.high_is ∙ stands.4) below in
    let ahead = more.0 in
    let written = slice_set slots slot (v +ℤ pos 1) in
    let inner : ℕ = ahead * best code (l.start + 1) + suc done * best code l.exit + turns_of l * outer in
    let next : v +ℤ pos 1 ≡ l.low +ℤ pos (suc done) = omega (arith, ints) in
    let at : slice_get written l.slot ≡ Some (l.low +ℤ pos (suc done)) = ap (λ x. slice_get written x) c.slot_is
    ∙ get_set_same slots slot (v +ℤ pos 1) v found ∙ ap Some next in
    let count : stands.0 + done ≡ ahead + suc done = (let e = more.1 in omega arith) in
    let top : l.high ≡ l.low +ℤ pos (ahead + suc done) = stands.4 ∙ ap (λ j. l.low +ℤ pos j) count in
    let turns : turns_of l ≡ ahead + suc done + 1 = stands.5 ∙ ap (λ j. j + 1) count in
    let stands' : TurnsLeft code written (l ∷ ls) inner = (
      ahead,
      suc done,
      outer,
      at,
      top,
      turns,
      refl,
      stands_other code slots slot (v +ℤ pos 1) ls outer c.free stands.7,
    ) in
    let on = best_on code p (p + 1) (LoopNext slot high to) is (λ f. omega arith) (omega arith) within in
    let out : best code (p + 1) ≡ best code l.exit = ap (best code) (sym c.exit_is) in
    let on' : weight_at code p + best code l.exit ≤ best code p = omega arith in
    let rest_is : rest ≡ suc ahead * best code (l.start + 1) + done * best code l.exit + turns_of l * outer = stands.6
    ∙ ap (λ j. j * best code (l.start + 1) + done * best code l.exit + turns_of l * outer) more.1 in
    let le' = subst (λ r. best code p + r ≤ suc n * weight_at code p) rest_is le in
    let sum =
    turn_sum n (weight_at code p) (best code p) (best code (l.start + 1)) (best code l.exit) ahead done
    (turns_of l * outer) on' le' in
    let w : weight_at code p ≡ weight_at code to = ap (λ ls. product (map turns_of ls)) (sym c.same) in
    let body : best code (l.start + 1) ≡ best code to = ap (best code) (sym c.back) in
    let sum' : best code to + inner ≤ n * weight_at code p = subst (λ x. x + inner ≤ n * weight_at code p) body sum in
    again to stack written outs inner c.within
    (subst (λ ls. TurnsLeft code written ls inner) (sym c.inside ∙ sym c.same) stands')
    (subst (λ x. best code to + inner ≤ n * x) w sum')

-- the last turn is over
leaves : (code : List Instr) (s : StepInputs) (n p slot to : ℕ) (high : ℤ) (slots : List ℤ) (rest : ℕ) → Within code s n
    → slice_get code p ≡ Some (LoopNext slot high to)
    → p + 1 < length code → (c : Closes code p slot high to)
    → TurnsLeft code slots (c.loop ∷ around code (p + 1)) rest → best code p + rest ≤ suc n * weight_at code p
    → (v : ℤ) → slice_get slots slot ≡ Some v → int_lt v high ≡ false
    → (stack : List ℤ) (outs : List Value) → IsOver (run code s n (p + 1) stack slots outs)
leaves code s n p slot to high slots rest again is within c stands le v found above stack outs =
    let l = c.loop in
    let done = stands.1 in
    let outer = stands.2 in
    let read : Some v ≡ Some (l.low +ℤ pos done) = sym found ∙ ap (λ x. slice_get slots x) (sym c.slot_is) ∙ stands.3 in
    let value : v ≡ l.low +ℤ pos done = cc in
    let none = last l.low high v stands.0 done value (sym c.high_is ∙ stands.4) above in
    let turns : turns_of l ≡ done + 1 = omega (arith, stands.5, none) in
    let w : weight_at code p ≡ turns_of l * weight_at code (p + 1) = ap (λ ls. product (map turns_of ls)) c.inside in
    let on = best_on code p (p + 1) (LoopNext slot high to) is (λ f. omega arith) (omega arith) within in
    let on' : turns_of l * weight_at code (p + 1) + best code (p + 1) ≤ best code p =
    subst (λ x. x + best code (p + 1) ≤ best code p) w on in
    let rest_is : rest ≡ 0 * best code (l.start + 1) + done * best code (p + 1) + turns_of l * outer =
    stands.6 ∙ ap (λ j. j * best code (l.start + 1) + done * best code l.exit + turns_of l * outer) none
    ∙ ap (λ x. 0 * best code (l.start + 1) + done * best code x + turns_of l * outer) c.exit_is in
    let le' : best code p + (0 * best code (l.start + 1) + done * best code (p + 1) + turns_of l * outer) ≤ suc n *
    (turns_of l * weight_at code (p + 1)) =
    subst (λ r. best code p + r ≤ suc n * (turns_of l * weight_at code (p + 1))) rest_is
    (subst (λ x. best code p + rest ≤ suc n * x) w le) in
    again (p + 1) stack slots outs outer within stands.7
    (close_sum n (weight_at code (p + 1)) (best code p) (best code (l.start + 1)) (best code (p + 1)) outer done
    (turns_of l) turns on' le')

goes_on : (code : List Instr) (s : StepInputs) (n p : ℕ) (i : Instr) (slots : List ℤ) (rest : ℕ) → Within code s n
    → slice_get code p ≡ Some i → Nests code p i
    → TurnsLeft code slots (around code p) rest → best code p + rest ≤ suc n * weight_at code p
    → Needs (λ q slots. (stack : List ℤ) (outs : List Value) → IsOver (run code s n q stack slots outs)) p slots i
goes_on code s n p (Jump to) slots rest again is nests stands le =
    onto code s n p to (Jump to) slots rest again is (λ f. omega arith) nests stands le
goes_on code s n p (JumpZero to) slots rest again is nests stands le = (
  onto code s n p to (JumpZero to) slots rest again is (λ f. omega arith) nests.0 stands le,
  onto code s n p (p + 1) (JumpZero to) slots rest again is (λ f. omega arith) nests.1 stands le,
)
goes_on code s n p (LoopStart slot low high exit) slots rest again is nests stands le = (
  onto code s n p exit (LoopStart slot low high exit) slots rest again is (λ f. omega arith) nests.0 stands le,
  begins code s n p slot exit low high slots rest again is nests.1 nests.2 stands le,
)
goes_on code s n p (LoopNext slot high to) slots rest again is nests stands le =
    let stands' = subst (λ ls. TurnsLeft code slots ls rest) nests.1.inside stands in
    (λ v found. (
      turns_again code s n p slot to high slots rest again is nests.0 nests.1 stands' le v found,
      leaves code s n p slot to high slots rest again is nests.0 nests.1 stands' le v found,
    ))
goes_on code s n p (Store x) slots rest again is nests stands le =
    λ v. onto code s n p (p + 1) (Store x) (slice_set slots x v) rest again is (λ f. omega arith) nests.0
    (stands_other code slots x v (around code p) rest nests.1 stands) le
goes_on code s n p (End state) slots rest again is nests stands le = tt
goes_on code s n p other slots rest again is nests stands le =
    onto code s n p (p + 1) other slots rest again is (λ f. omega arith) nests stands le

at_place : (code : List Instr) (s : StepInputs) (n p : ℕ) (o : Option Instr) (stack slots : List ℤ) (outs : List Value)
    → slice_get code p ≡ o
    → ((i : Instr) → slice_get code p ≡ Some i
    → Needs (λ q slots. (stack : List ℤ) (outs : List Value) → IsOver (run code s n q stack slots outs)) p slots i)
    → IsOver (then_run (step o s p stack slots outs) (run code s n))
at_place code s n p None stack slots outs is needs = tt
at_place code s n p (Some i) stack slots outs is needs =
    over (run code s n) (step (Some i) s p stack slots outs)
    (step_reached (λ q slots. (stack : List ℤ) (outs : List Value) → IsOver (run code s n q stack slots outs)) s i p
    stack slots outs (needs i is))

pub within_weight : (code : List Instr) (s : StepInputs) → IsNested code → (n : ℕ) → Within code s n
within_weight code s nested zero p stack slots outs rest within stands le =
    let here = best_here code p within in
    let positive = product_positive code slots (around code p) rest stands in
    absurd (omega arith)
within_weight code s nested (suc n) p stack slots outs rest within stands le =
    at_place code s n p (slice_get code p) stack slots outs refl
    (λ i is. goes_on code s n p i slots rest (within_weight code s nested n) is (nested.each p i is) stands le)

-- from a place in no loop
pub ends_within : (code : List Instr) (s : StepInputs) (n p : ℕ) (stack slots : List ℤ) (outs : List Value)
    → IsNested code
    → p < length code → around code p ≡ [] → heaviest code (length code) p ≤ n
    → IsOver (run code s n p stack slots outs)
ends_within code s n p stack slots outs nested within outside le =
    let less = heaviest_more code (length code - p) (length code) p (omega arith) in
    let w : weight_at code p ≡ 1 = ap (λ ls. product (map turns_of ls)) outside in
    let sum : best code p + 0 ≤ n * 1 = omega arith in
    within_weight code s nested n p stack slots outs 0 within
    (subst (λ ls. TurnsLeft code slots ls 0) (sym outside) refl)
    (subst (λ x. best code p + 0 ≤ n * x) (sym w) sum)
