-- The order of blocks that is searched for has each state in the end.
use Rattle.std.proofs.Common.{◌≡◌, ◌∙◌, inl, inr, ℕ, zero, suc, ◌+◌, ◌<◌, ◌≤◌, Bool, true, false, ◌&&◌, ◌||◌, not}
use Rattle.std.proofs.Common.{if◌then◌else◌, List, [], ◌∷◌, ◌++◌, length, Option, Some, None, slice_index_or, refl, sym}
use Rattle.std.proofs.Common.{ap, subst, ⊎_elim, arith, nat_eq}
use Rattle.std.specs.Prelude.{filter}
use Rattle.std.specs.List.{list_all, list_any, All}
use Rattle.std.proofs.lemmas.Bool.{and_parts, cases_Bool, true≢false, false≢true, not-true}
use Rattle.pals_base.specs.declared.behaviour.BehaviourParts.{BehaviourParts}
use Rattle.pals_base.specs.ExpressionAndActionTrees.{Edge}
use Rattle.pals_base.specs.SingleStep.{is_complete, leaving}
use Rattle.pals_base.specs.UpwardNumbers.{upwards}
use Rattle.pals_base.specs.BehaviourRules.{is_edge, IsBehaviour}
use Rattle.pals_base.specs.proof.CycleSearchMarks.{settles}
use Rattle.pals_base.proofs.TransitionWaysAndCycles.{settled_unless_cycle}
use Rattle.pals_base.proofs.UpwardNumbers.{length-upwards}
use Rattle.step_code.specs.CodeLengths.{code_length}
use Rattle.step_code.specs.proof.StackHeights.{Member}
use Rattle.step_compiler.specs.LaidOutCode.{states_of, complete_states}
use Rattle.step_compiler.specs.proof.BlockOrder.{is_placed, leads_from_outside, is_awaited, may_follow, next_state}
use Rattle.step_compiler.specs.proof.BlockOrder.{with_next, ordered, block_order}
use Rattle.step_compiler.specs.proof.BlockLengthsAndStarts.{order_length}
use Rattle.step_compiler.proofs.NumbersFromZero.{found_is, none_is, member_upwards}
use Rattle.step_compiler.proofs.TransitionRules.{edge_has}
use Rattle.step_compiler.proofs.BlockOrderInvariant.{placed_more, more_true, all_placed, IsBuilt, built_more}
use Rattle.step_compiler.proofs.BlockOrderInvariant.{completes_first}

-- ---- members of lists
pub all_member : {A : Type 0} (f : A → Bool) (xs : List A) (x : A) → list_all f xs ≡ true → Member xs x → f x ≡ true
all_member f [] x all among = absurd among
all_member f (y ∷ ys) x all among =
    let both = and_parts (f y) (list_all f ys) all in
    ⊎_elim (λ (is : y ≡ x). ap f (sym is) ∙ both.0) (λ later. all_member f ys x both.1 later) among

none_member : {A : Type 0} (f : A → Bool) (xs : List A) (x : A) → list_any f xs ≡ false → Member xs x → f x ≡ false
none_member f [] x none among = absurd among
none_member f (y ∷ ys) x none among =
    let both = parts (f y) (list_any f ys) none in
    ⊎_elim (λ (is : y ≡ x). ap f (sym is) ∙ both.0) (λ later. none_member f ys x both.1 later) among
  where
    parts : (a c : Bool) → (a || c) ≡ false → (a ≡ false) × (c ≡ false)
    parts true c is = absurd (true≢false is)
    parts false c is = (refl, is)

pub record Witness {A : Type 0} (f : A → Bool) (xs : List A) : Type 0 where
  pub item : A
  pub among : Member xs item
  pub holds : f item ≡ true

pub some_member : {A : Type 0} (f : A → Bool) (xs : List A) → list_any f xs ≡ true → Witness f xs
some_member f [] any = absurd (false≢true any)
some_member f (y ∷ ys) any = by (f y) refl any (λ rest. some_member f ys rest)
  where
    by : (t : Bool) → f y ≡ t → (t || list_any f ys) ≡ true → (list_any f ys ≡ true → Witness f ys) → Witness f (y ∷ ys)
    by true is any later = record { item = y; among = inl refl; holds = is }
    by false is any later = let w = later any in record { item = w.item; among = inr w.among; holds = w.holds }

not_all : {A : Type 0} (f : A → Bool) (xs : List A) (x : A) → Member xs x → f x ≡ false → list_all f xs ≡ false
not_all f xs x among isnt =
    ⊎_elim (λ all. absurd (true≢false (sym (all_member f xs x all among) ∙ isnt))) (λ no'. no')
    (cases_Bool (list_all f xs))

pub leaving_member : (es : List Edge) (s : ℕ) (e : Edge) → Member es e → e.source ≡ s
    → Member (filter (λ e. nat_eq e.source s) es) e
leaving_member [] s e among is = absurd among
leaving_member (x ∷ es) s e among is =
    ⊎_elim
    (λ (here : x ≡ e). let yes' : nat_eq x.source s ≡ true =
    (let at : x.source ≡ s = ap (λ (y : Edge). y.source) here ∙ is in grind arith) in
    subst (λ t. Member (if t then x ∷ filter (λ e. nat_eq e.source s) es else filter (λ e. nat_eq e.source s) es) e)
    (sym yes') (inl here))
    (λ later. by (nat_eq x.source s) (leaving_member es s e later is))
    among
  where
    by : (t : Bool) → Member (filter (λ e. nat_eq e.source s) es) e
        → Member (if t then x ∷ filter (λ e. nat_eq e.source s) es else filter (λ e. nat_eq e.source s) es) e
    by true m = inr m
    by false m = m

-- ---- a block that may come next
abbrev Firsts : BehaviourParts → List ℕ → Type 0
Firsts b order = (s : ℕ) → s < length b.states → is_complete b s ≡ true → is_placed order s ≡ true

pub record Ready (b : BehaviourParts) (order : List ℕ) : Type 0 where
  pub state : ℕ
  pub within : state < length b.states
  pub follows : may_follow b order state ≡ true

going : (b : BehaviourParts) (order : List ℕ) (s : ℕ) → Firsts b order → s < length b.states → is_placed order s ≡ false
    → is_complete b s ≡ false
going b order s firsts within placed =
    ⊎_elim (λ complete. absurd (true≢false (sym (firsts s within complete) ∙ placed))) (λ no'. no')
    (cases_Bool (is_complete b s))

follow_by : (b : BehaviourParts) (order : List ℕ) (s : ℕ) → is_placed order s ≡ false → is_awaited b order s ≡ false
    → may_follow b order s ≡ true
follow_by b order s placed awaited = ap (λ x. not x && not (is_awaited b order s)) placed ∙ ap not awaited

ready : (b : BehaviourParts) (order : List ℕ) → IsBehaviour b → Firsts b order → (k m s : ℕ) → m + k ≡ length b.states
    → s < length b.states → is_placed order s ≡ false → settles m b s ≡ false → Ready b order
ready b order rules firsts zero m s sum within placed unsettled =
    let at : m ≡ length b.states = omega arith in
    absurd (true≢false (sym (settled_unless_cycle b s rules.acyclic) ∙ ap (λ k. settles k b s) (sym at) ∙ unsettled))
ready b order rules firsts (suc k) m s sum within placed unsettled =
    ⊎_elim
    (λ awaited.
    let w = some_member (leads_from_outside order s) b.transitions awaited in
    let e = w.item in
    let both = and_parts (not (is_placed order e.source)) (nat_eq e.target s) w.holds in
    let out : is_placed order e.source ≡ false = not-true (is_placed order e.source) both.0 in
    let to : e.target ≡ s = (let is = both.1 in grind arith) in
    let from = (edge_has b e (all_member (is_edge b) b.transitions e rules.edges w.among)).source in
    let later : settles m b e.target ≡ false = ap (settles m b) to ∙ unsettled in
    let onward : list_all (λ f. settles m b f.target) (leaving b e.source) ≡ false =
    not_all (λ (f : Edge). settles m b f.target) (leaving b e.source) e
    (leaving_member b.transitions e.source e w.among refl) later in
    let next : settles (suc m) b e.source ≡ false =
    ap (λ x. x || list_all (λ f. settles m b f.target) (leaving b e.source))
    (going b order e.source firsts from out) ∙ onward in
    ready b order rules firsts k (suc m) e.source (omega arith) from out next)
    (λ free. record { state = s; within = within; follows = follow_by b order s placed free })
    (cases_Bool (is_awaited b order s))

some_ready : (b : BehaviourParts) (order : List ℕ) (s : ℕ) → IsBehaviour b → Firsts b order → s < length b.states
    → is_placed order s ≡ false → Ready b order
some_ready b order s rules firsts within placed =
    ready b order rules firsts (length b.states) 0 s (omega arith) within placed (going b order s firsts within placed)

-- ---- how many are not placed
abbrev unplaced : List ℕ → List ℕ → ℕ
unplaced order [] = 0
unplaced order (t ∷ ts) = (if is_placed order t then 0 else 1) + unplaced order ts

one_less : (p q r : Bool) (x y : ℕ) → r ≡ (p || q) → x ≤ y → (if r then 0 else 1) + x ≤ (if p then 0 else 1) + y
one_less true q r x y is le = subst (λ b. (if b then 0 else 1) + x ≤ 0 + y) (sym is) (omega arith)
one_less false true r x y is le = subst (λ b. (if b then 0 else 1) + x ≤ 1 + y) (sym is) (omega arith)
one_less false false r x y is le = subst (λ b. (if b then 0 else 1) + x ≤ 1 + y) (sym is) (omega arith)

unplaced_less : (order : List ℕ) (s : ℕ) (ts : List ℕ) → unplaced (order ++ s ∷ []) ts ≤ unplaced order ts
unplaced_less order s [] = omega arith
unplaced_less order s (t ∷ ts) =
    one_less (is_placed order t) (nat_eq s t) (is_placed (order ++ s ∷ []) t) (unplaced (order ++ s ∷ []) ts)
    (unplaced order ts) (placed_more order s t) (unplaced_less order s ts)

one_fewer : (p r : Bool) (x y : ℕ) → p ≡ false → r ≡ true → x ≤ y → (if r then 0 else 1) + x < (if p then 0 else 1) + y
one_fewer p r x y isnt is le =
    subst (λ a. (if a then 0 else 1) + x < (if p then 0 else 1) + y) (sym is)
    (subst (λ a. 0 + x < (if a then 0 else 1) + y) (sym isnt) (omega arith))

later_fewer : (p q r : Bool) (x y : ℕ) → r ≡ (p || q) → x < y → (if r then 0 else 1) + x < (if p then 0 else 1) + y
later_fewer p q r x y is less = let le = one_less p q r (suc x) y is (omega arith) in omega arith

unplaced_fewer : (order : List ℕ) (s : ℕ) (ts : List ℕ) → Member ts s → is_placed order s ≡ false
    → unplaced (order ++ s ∷ []) ts < unplaced order ts
unplaced_fewer order s [] among placed = absurd among
unplaced_fewer order s (t ∷ ts) among placed =
    ⊎_elim
    (λ (here : t ≡ s).
    let now : is_placed (order ++ s ∷ []) t ≡ true = placed_more order s t
    ∙ ap (λ k. is_placed order t || nat_eq k t) (sym here) ∙ last (is_placed order t) t in
    one_fewer (is_placed order t) (is_placed (order ++ s ∷ []) t) (unplaced (order ++ s ∷ []) ts) (unplaced order ts)
    (ap (is_placed order) here ∙ placed) now (unplaced_less order s ts))
    (λ later. later_fewer (is_placed order t) (nat_eq s t) (is_placed (order ++ s ∷ []) t)
    (unplaced (order ++ s ∷ []) ts) (unplaced order ts) (placed_more order s t)
    (unplaced_fewer order s ts later placed))
    among
  where
    last : (x : Bool) (t : ℕ) → (x || nat_eq t t) ≡ true
    last true t = refl
    last false t = grind arith

none_left : (order : List ℕ) (ts : List ℕ) (t : ℕ) → unplaced order ts ≤ 0 → Member ts t → is_placed order t ≡ true
none_left order [] t none among = absurd among
none_left order (u ∷ ts) t none among =
    ⊎_elim (λ (here : u ≡ t). ap (is_placed order) (sym here) ∙ by (is_placed order u) refl none)
    (λ later. none_left order ts t (omega arith) later) among
  where
    by : (p : Bool) → is_placed order u ≡ p → (if p then 0 else 1) + unplaced order ts ≤ 0 → is_placed order u ≡ true
    by true is le = is
    by false is le = absurd (omega arith)

all_left : (order : List ℕ) (ts : List ℕ) → ((t : ℕ) → Member ts t → is_placed order t ≡ true) → unplaced order ts ≡ 0
all_left order [] all = refl
all_left order (t ∷ ts) all =
    ap (λ x. (if x then 0 else 1) + unplaced order ts) (all t (inl refl))
    ∙ (let rest = all_left order ts (λ u among. all u (inr among)) in omega arith)

unplaced_most : (order : List ℕ) (ts : List ℕ) → unplaced order ts ≤ length ts
unplaced_most order [] = omega arith
unplaced_most order (t ∷ ts) = let rest = unplaced_most order ts in by (is_placed order t) rest
  where
    by : (p : Bool) → unplaced order ts ≤ length ts → (if p then 0 else 1) + unplaced order ts ≤ suc (length ts)
    by true le = omega arith
    by false le = omega arith

-- ---- the whole order
pub record IsFull (b : BehaviourParts) (order : List ℕ) : Type 0 where
  pub built : IsBuilt b order
  pub all : (s : ℕ) → s < length b.states → is_placed order s ≡ true

all_there : (b : BehaviourParts) (order : List ℕ) → unplaced order (states_of b) ≤ 0 → (s : ℕ) → s < length b.states
    → is_placed order s ≡ true
all_there b order none s within = none_left order (states_of b) s none (member_upwards (length b.states) s within)

sources_of : (b : BehaviourParts) (order : List ℕ) (s : ℕ) → is_awaited b order s ≡ false → (e : Edge)
    → Member b.transitions e → e.target ≡ s → is_placed order e.source ≡ true
sources_of b order s free e among to =
    by (is_placed order e.source) (nat_eq e.target s)
    (none_member (leads_from_outside order s) b.transitions e free among) (let at = to in grind arith)
  where
    by : (p t : Bool) → (not p && t) ≡ false → t ≡ true → p ≡ true
    by true t is yes' = refl
    by false t is yes' = absurd (true≢false (sym yes' ∙ is))

within_from : (from n t : ℕ) → Member (upwards from n) t → t < from + n
within_from from zero t among = absurd among
within_from from (suc n) t among =
    ⊎_elim (λ (is : from ≡ t). omega arith) (λ later. let less = within_from (suc from) n t later in omega arith) among

within_of : (n t : ℕ) → Member (upwards 0 n) t → t < n
within_of n t among = let less = within_from 0 n t among in omega arith

abbrev Fills : BehaviourParts → ℕ → Type 0
Fills b k =
    (order : List ℕ) → IsBuilt b order → Firsts b order → unplaced order (states_of b) ≤ k
    → IsFull b (ordered k b order)

full_by : (b : BehaviourParts) (k : ℕ) (order : List ℕ) (o : Option ℕ) → IsBehaviour b → Fills b k → IsBuilt b order
    → Firsts b order → unplaced order (states_of b) ≤ suc k → next_state b order ≡ o
    → IsFull b (ordered k b (with_next order o))
full_by b k order None rules again built firsts most is =
    let all : (s : ℕ) → s < length b.states → is_placed order s ≡ true =
    λ s within. ⊎_elim (λ yes'. yes')
    (λ out. let r = some_ready b order s rules firsts within out in
    absurd (true≢false (sym r.follows ∙ none_is (may_follow b order) (length b.states) r.state is r.within)))
    (cases_Bool (is_placed order s)) in
    let none = all_left order (states_of b) (λ t among. all t (within_of (length b.states) t among)) in
    again order built firsts (omega arith)
full_by b k order (Some s) rules again built firsts most is =
    let x = found_is (may_follow b order) (length b.states) s is in
    let both = and_parts (not (is_placed order s)) (not (is_awaited b order s)) x.0 in
    let out = not-true (is_placed order s) both.0 in
    let free = not-true (is_awaited b order s) both.1 in
    let fewer = unplaced_fewer order s (states_of b) (member_upwards (length b.states) s x.1) out in
    again (order ++ s ∷ []) (built_more b order s built x.1 out
    (λ e among to isnt. sources_of b order s free e among to))
    (λ t within complete. more_true order s t (firsts t within complete)) (omega arith)

full : (b : BehaviourParts) (k : ℕ) → IsBehaviour b → Fills b k
full b zero rules order built firsts most = record { built = built; all = all_there b order most }
full b (suc k) rules order built firsts most =
    full_by b k order (next_state b order) rules (full b k rules) built firsts most refl

pub order_full : (b : BehaviourParts) → IsBehaviour b → IsFull b (block_order b)
order_full b rules =
    let first = completes_first b in
    let size = length-upwards 0 (length b.states) in
    let most = unplaced_most (complete_states b) (states_of b) in
    full b (length b.states) rules (complete_states b) first.built first.all (omega arith)

-- the blocks together are as long as the transitions
pub order_sum : (b : BehaviourParts) → IsBehaviour b → order_length b (block_order b) ≡ code_length b
order_sum b rules =
    let f = order_full b rules in
    f.built.sum ∙ all_placed (block_order b) b.transitions
    (λ e among. f.all e.source (edge_has b e (all_member (is_edge b) b.transitions e rules.edges among)).source)

placed_at : (order : List ℕ) (i d : ℕ) → i < length order → is_placed order (slice_index_or order i d) ≡ true
placed_at [] i d within = absurd (omega arith)
placed_at (s ∷ order) zero d within =
    ap (λ x. x || is_placed order s) (let same : nat_eq s s ≡ true = grind arith in same)
placed_at (s ∷ order) (suc i) d within =
    last (nat_eq s (slice_index_or order i d)) (is_placed order (slice_index_or order i d))
    (placed_at order i d (omega arith))
  where
    last : (x y : Bool) → y ≡ true → (x || y) ≡ true
    last true y is = refl
    last false y is = is

pub order_within : (b : BehaviourParts) → IsBehaviour b → All (λ s. s < length b.states) (block_order b)
order_within b rules i d within = (order_full b rules).built.within _ (placed_at (block_order b) i d within)
