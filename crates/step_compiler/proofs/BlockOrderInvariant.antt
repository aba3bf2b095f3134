-- What holds of an order of blocks while it grows by one state after the other.
use Rattle.std.proofs.Common.{◌≡◌, ◌∙◌, inl, inr, ℕ, zero, suc, ◌+◌, ◌<◌, ◌≤◌, Bool, true, false, ◌||◌, if◌then◌else◌}
use Rattle.std.proofs.Common.{List, [], ◌∷◌, ◌++◌, length, refl, sym, ap, subst, ⊎_elim, arith, add-one, append-nil}
use Rattle.std.proofs.Common.{nat_eq}
use Rattle.std.specs.Prelude.{filter}
use Rattle.std.proofs.lemmas.Bool.{cases_Bool, true≢false, false≢true, or_parts, or_cases}
use Rattle.std.proofs.Math.Bool.{or-false}
use Rattle.list_lemmas.proofs.Numbers.{nat_eq-self}
use Rattle.list_lemmas.proofs.Booleans.{or_second}
use Rattle.pals_base.specs.declared.behaviour.BehaviourParts.{BehaviourParts}
use Rattle.pals_base.specs.ExpressionAndActionTrees.{Edge}
use Rattle.pals_base.specs.SingleStep.{is_complete}
use Rattle.pals_base.specs.UpwardNumbers.{upwards}
use Rattle.step_code.specs.CodeLengths.{length_edge, length_edges}
use Rattle.step_code.specs.proof.StackHeights.{Member}
use Rattle.step_compiler.specs.proof.BlockOrder.{is_placed}
use Rattle.step_compiler.specs.LaidOutCode.{complete_states}
use Rattle.step_compiler.specs.proof.BlockLengthsAndStarts.{leaving_among, order_length}
use Rattle.step_compiler.specs.BlockInstructions.{block_length, start_of}
use Rattle.step_compiler.proofs.NumbersFromZero.{filter_more}

-- ---- one more block

or_assoc : (x y z : Bool) → (x || (y || z)) ≡ ((x || y) || z)
or_assoc true y z = refl
or_assoc false y z = refl

pub placed_more : (order : List ℕ) (s t : ℕ) → is_placed (order ++ s ∷ []) t ≡ (is_placed order t || nat_eq s t)
placed_more [] s t = or-false (nat_eq s t)
placed_more (u ∷ order) s t =
    ap (λ x. nat_eq u t || x) (placed_more order s t) ∙ or_assoc (nat_eq u t) (is_placed order t) (nat_eq s t)

kept_by : (b : BehaviourParts) (u t x y : ℕ) (r : Bool) → (r ≡ false → x ≡ y)
    → (if r then 0 else block_length b u + x) ≡ (if r then 0 else block_length b u + y)
kept_by b u t x y true same = refl
kept_by b u t x y false same = ap (λ k. block_length b u + k) (same refl)

pub start_kept : (b : BehaviourParts) (order : List ℕ) (s t : ℕ) → is_placed order t ≡ true
    → start_of b (order ++ s ∷ []) t ≡ start_of b order t
start_kept b [] s t placed = absurd (false≢true placed)
start_kept b (u ∷ order) s t placed =
    kept_by b u t (start_of b (order ++ s ∷ []) t) (start_of b order t) (nat_eq u t)
    (λ isnt. start_kept b order s t (or_second (nat_eq u t) (is_placed order t) isnt placed))

pub start_last : (b : BehaviourParts) (order : List ℕ) (s : ℕ) → is_placed order s ≡ false
    → start_of b (order ++ s ∷ []) s ≡ order_length b order
start_last b [] s placed = ap (λ x. if x then 0 else block_length b s + 0) (nat_eq-self s)
start_last b (u ∷ order) s placed =
    let parts = or_parts (nat_eq u s) (is_placed order s) placed in
    ap (λ x. if x then 0 else block_length b u + start_of b (order ++ s ∷ []) s) parts.0
    ∙ ap (λ k. block_length b u + k) (start_last b order s parts.1)

below_by : (b : BehaviourParts) (order : List ℕ) (u t : ℕ) (r : Bool) → nat_eq u t ≡ r
    → (r ≡ false → start_of b order t + block_length b t ≤ order_length b order)
    → (if r then 0 else block_length b u + start_of b order t) + block_length b t
    ≤ block_length b u + order_length b order
below_by b order u t true is later = let same : u ≡ t = grind arith in let e = ap (block_length b) same in omega arith
below_by b order u t false is later = let le = later refl in omega arith

pub start_below : (b : BehaviourParts) (order : List ℕ) (t : ℕ) → is_placed order t ≡ true
    → start_of b order t + block_length b t ≤ order_length b order
start_below b [] t placed = absurd (false≢true placed)
start_below b (u ∷ order) t placed =
    below_by b order u t (nat_eq u t) refl
    (λ isnt. start_below b order t (or_second (nat_eq u t) (is_placed order t) isnt placed))

length_more : (b : BehaviourParts) (order : List ℕ) (s : ℕ)
    → order_length b (order ++ s ∷ []) ≡ order_length b order + block_length b s
length_more b [] s = omega arith
length_more b (u ∷ order) s = let rest = length_more b order s in omega arith

-- ---- the lengths of the transitions whose source is placed
abbrev pub placed_length : List ℕ → List Edge → ℕ
placed_length order [] = 0
placed_length order (e ∷ es) = (if is_placed order e.source then length_edge e else 0) + placed_length order es

sum_by : (p q r : Bool) (n x y z : ℕ) (e : Edge) (es : List Edge) → r ≡ (p || q) → (q ≡ true → p ≡ false)
    → n ≡ length_edge e → z ≡ length_edges es → x ≡ y + z
    → (if r then n else 0) + x ≡ ((if p then n else 0) + y) + length_edges (if q then e ∷ es else es)
sum_by true true r n x y z e es is apart n_is z_is rest = absurd (true≢false (apart refl))
sum_by true false true n x y z e es is apart n_is z_is rest = omega arith
sum_by true false false n x y z e es is apart n_is z_is rest = absurd (false≢true is)
sum_by false true true n x y z e es is apart n_is z_is rest = omega arith
sum_by false true false n x y z e es is apart n_is z_is rest = absurd (false≢true is)
sum_by false false true n x y z e es is apart n_is z_is rest = absurd (true≢false is)
sum_by false false false n x y z e es is apart n_is z_is rest = omega arith

placed_length_more : (order : List ℕ) (s : ℕ) (es : List Edge) → is_placed order s ≡ false
    → placed_length (order ++ s ∷ []) es ≡ placed_length order es + length_edges (leaving_among s es)
placed_length_more order s [] placed = refl
placed_length_more order s (e ∷ es) placed =
    sum_by (is_placed order e.source) (nat_eq e.source s) (is_placed (order ++ s ∷ []) e.source) (length_edge e)
    (placed_length (order ++ s ∷ []) es) (placed_length order es) (length_edges (leaving_among s es)) e
    (leaving_among s es)
    (placed_more order s e.source
    ∙ ap (λ x. is_placed order e.source || x)
    (let same : nat_eq s e.source ≡ nat_eq e.source s = grind arith in same))
    (λ is. let at : e.source ≡ s = grind arith in ap (is_placed order) at ∙ placed) refl refl
    (placed_length_more order s es placed)

none_placed : (es : List Edge) → placed_length [] es ≡ 0
none_placed [] = refl
none_placed (e ∷ es) = let rest = none_placed es in omega arith

pub all_placed : (order : List ℕ) (es : List Edge) → ((e : Edge) → Member es e → is_placed order e.source ≡ true)
    → placed_length order es ≡ length_edges es
all_placed order [] placed = refl
all_placed order (e ∷ es) placed =
    ap (λ x. (if x then length_edge e else 0) + placed_length order es) (placed e (inl refl))
    ∙ ap (λ k. length_edge e + k) (all_placed order es (λ f among. placed f (inr among)))

-- ---- each block once
abbrev pub AreOnce : List ℕ → Type 0
AreOnce [] = Unit {0}
AreOnce (s ∷ order) = (is_placed order s ≡ false) × AreOnce order

once_more : (order : List ℕ) (s : ℕ) → AreOnce order → is_placed order s ≡ false → AreOnce (order ++ s ∷ [])
once_more [] s once placed = (refl, tt)
once_more (u ∷ order) s once placed =
    let parts = or_parts (nat_eq u s) (is_placed order s) placed in
    let apart : nat_eq s u ≡ false = (let e = parts.0 in grind arith) in
    (placed_more order s u ∙ ap (λ x. x || nat_eq s u) once.0 ∙ apart, once_more order s once.1 parts.1)

-- ---- what an order keeps
pub record IsBuilt (b : BehaviourParts) (order : List ℕ) : Type 0 where
  pub within : (s : ℕ) → is_placed order s ≡ true → s < length b.states
  pub sum : order_length b order ≡ placed_length order b.transitions
  pub once : AreOnce order
  -- the block of a passing state follows the blocks that jump to it
  pub behind : (e : Edge) → Member b.transitions e → is_placed order e.target ≡ true → is_complete b e.target ≡ false
      → (is_placed order e.source ≡ true)
      × (start_of b order e.source + block_length b e.source ≤ start_of b order e.target)

built_none : (b : BehaviourParts) → IsBuilt b []
built_none b = record {
  within = λ s placed. absurd (false≢true placed);
  sum = sym (none_placed b.transitions);
  once = tt;
  behind = λ e among placed isnt. absurd (false≢true placed);
}

pub more_true : (order : List ℕ) (s t : ℕ) → is_placed order t ≡ true → is_placed (order ++ s ∷ []) t ≡ true
more_true order s t placed = placed_more order s t ∙ ap (λ x. x || nat_eq s t) placed

pub built_more : (b : BehaviourParts) (order : List ℕ) (s : ℕ) → IsBuilt b order → s < length b.states
    → is_placed order s ≡ false
    → ((e : Edge) → Member b.transitions e → e.target ≡ s → is_complete b s ≡ false → is_placed order e.source ≡ true)
    → IsBuilt b (order ++ s ∷ [])
built_more b order s built inside placed sources = record {
  within = λ t is.
      ⊎_elim (λ before. built.within t before)
      (λ here. let at : s ≡ t = grind arith in subst (λ k. k < length b.states) at inside)
      (or_cases (is_placed order t) (nat_eq s t) (sym (placed_more order s t) ∙ is));
  sum =
      length_more b order s ∙ ap (λ k. k + block_length b s) built.sum
      ∙ sym (placed_length_more order s b.transitions placed);
  once = once_more order s built.once placed;
  behind = λ e among is isnt.
      ⊎_elim
      (λ before.
      let was = built.behind e among before isnt in
      let first = start_kept b order s e.source was.0 in
      let second = start_kept b order s e.target before in
      let le = was.1 in
      (more_true order s e.source was.0, omega arith))
      (λ here.
      let at : e.target ≡ s = grind arith in
      let was = sources e among at (ap (is_complete b) (sym at) ∙ isnt) in
      let first = start_kept b order s e.source was in
      let last = ap (start_of b (order ++ s ∷ [])) at ∙ start_last b order s placed in
      let le = start_below b order e.source was in
      (more_true order s e.source was, omega arith))
      (or_cases (is_placed order e.target) (nat_eq s e.target) (sym (placed_more order s e.target) ∙ is));
}

-- ---- the complete states
pub record AreFirst (b : BehaviourParts) (k : ℕ) (order : List ℕ) : Type 0 where
  pub built : IsBuilt b order
  pub below : (s : ℕ) → is_placed order s ≡ true → s < k
  pub all : (s : ℕ) → s < k → is_complete b s ≡ true → is_placed order s ≡ true

first_by : (b : BehaviourParts) (k : ℕ) (order : List ℕ) (t : Bool) → is_complete b k ≡ t → k < length b.states
    → AreFirst b k order → AreFirst b (k + 1) (order ++ (if t then k ∷ [] else []))
first_by b k order true is inside first = record {
  built =
      built_more b order k first.built inside
      (⊎_elim (λ yes'. absurd (let less = first.below k yes' in omega arith)) (λ no'. no')
      (cases_Bool (is_placed order k))) (λ e among at isnt. absurd (true≢false (sym is ∙ isnt)));
  below =
      λ s placed. ⊎_elim (λ before. let less = first.below s before in omega arith)
      (λ here. let at : k ≡ s = grind arith in omega arith)
      (or_cases (is_placed order s) (nat_eq k s) (sym (placed_more order k s) ∙ placed));
  all = λ s less complete.
      placed_more order k s
      ∙ ⊎_elim (λ (here : nat_eq k s ≡ true). ap (λ x. is_placed order s || x) here ∙ or_yes (is_placed order s))
      (λ (there : nat_eq k s ≡ false). let before : s < k = grind arith in
      ap (λ x. x || nat_eq k s) (first.all s before complete)) (cases_Bool (nat_eq k s));
}
  where
    or_yes : (x : Bool) → (x || true) ≡ true
    or_yes true = refl
    or_yes false = refl
first_by b k order false is inside first = subst (AreFirst b (k + 1)) (sym (append-nil order)) (record {
  built = first.built;
  below = λ s placed. let less = first.below s placed in omega arith;
  all =
      λ s less complete. ⊎_elim
      (λ (here : nat_eq k s ≡ true). let at : s ≡ k = grind arith in
      absurd (true≢false (sym complete ∙ ap (is_complete b) at ∙ is)))
      (λ (there : nat_eq k s ≡ false). let before : s < k = grind arith in first.all s before complete)
      (cases_Bool (nat_eq k s));
})

firsts : (b : BehaviourParts) (k : ℕ) → k ≤ length b.states → AreFirst b k (filter (is_complete b) (upwards 0 k))
firsts b zero le =
    record {
      built = built_none b;
      below = λ s placed. absurd (false≢true placed);
      all = λ s less. absurd (omega arith);
    }
firsts b (suc k) le =
    subst (λ n. AreFirst b n (filter (is_complete b) (upwards 0 n))) (add-one k)
    (subst (AreFirst b (k + 1)) (sym (filter_more (is_complete b) k (is_complete b k) refl))
    (first_by b k (filter (is_complete b) (upwards 0 k)) (is_complete b k) refl (omega arith)
    (firsts b k (omega arith))))

pub completes_first : (b : BehaviourParts) → AreFirst b (length b.states) (complete_states b)
completes_first b = firsts b (length b.states) (omega arith)
