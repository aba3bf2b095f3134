-- For `first_of` and `meet`: which of the targets of a run is the smallest.
use Rattle.std.proofs.Common.{◌≡◌, ◌∙◌, inl, inr, ℕ, ◌+◌, ◌<◌, ◌≤◌, nat_lt, true, false, List, length, Option, Some}
use Rattle.std.proofs.Common.{None, refl, sym, ap, ap₂, subst, arith}
use Rattle.std.specs.Prelude.{slice_index_or, slice_set}
use Rattle.std.proofs.lemmas.Bool.{cases_lt, cases_eq, ltb-true, ltb-false, le-ltb, false≢true}
use Rattle.std.proofs.lemmas.List.{get_or-set_same, get_or-set_other, get_or_past}
use Rattle.pals_bus.specs.proof.LeastTargets.{is_below, IsBound, IsFirst}

-- ---- the order
pub no_lower : (t bound other : Option ℕ) → is_below t bound ≡ false → is_below bound other ≡ false
    → is_below t other ≡ false
no_lower None bound other above more = refl
no_lower (Some t) None other above more = absurd (false≢true (sym above))
no_lower (Some t) (Some b) None above more = absurd (false≢true (sym more))
no_lower (Some t) (Some b) (Some o) above more =
    let low = ltb-false t b above in
    let high = ltb-false b o more in
    le-ltb t o (omega arith)

pub below_bound : (t bound other : Option ℕ) → is_below t bound ≡ true → is_below other bound ≡ false
    → is_below other t ≡ false
below_bound None bound other below above = absurd (false≢true below)
below_bound (Some t) bound None below above = refl
below_bound (Some t) None (Some o) below above = absurd (false≢true (sym above))
below_bound (Some t) (Some b) (Some o) below above =
    let low = ltb-true t b below in
    let high = ltb-false o b above in
    le-ltb o t (omega arith)

pub not_below_itself : (t : Option ℕ) → is_below t t ≡ false
not_below_itself None = refl
not_below_itself (Some t) = le-ltb t t (omega arith)

-- ---- a bound of the targets
pub bound_set : (targets : List (Option ℕ)) (node : ℕ) (t bound : Option ℕ) → node < length targets
    → IsBound targets bound → is_below t bound ≡ false → IsBound (slice_set targets node t) bound
bound_set targets node t bound within is above k = elim (cases_eq k node) [
  | inl same ↦ subst (λ o. is_below o bound ≡ false)
      (sym (ap (λ n. slice_index_or (slice_set targets node t) n None) same
      ∙ get_or-set_same targets node t None within)) above
  | inr other ↦ subst (λ o. is_below o bound ≡ false) (sym (get_or-set_other targets node k t None other)) (is k)
]

-- a target below it is the smallest one
pub first_set : (targets : List (Option ℕ)) (node : ℕ) (t bound : Option ℕ) → node < length targets
    → IsBound targets bound → is_below t bound ≡ true → IsFirst (slice_set targets node t) node
first_set targets node t bound within is below =
    let lower : IsBound targets t = λ k. below_bound t bound (slice_index_or targets k None) below (is k) in
    subst (IsBound (slice_set targets node t)) (sym (get_or-set_same targets node t None within))
    (bound_set targets node t t within lower (not_below_itself t))

-- so is a target that is not above it
pub first_here : (targets : List (Option ℕ)) (bound : Option ℕ) (at : ℕ) → IsBound targets bound
    → is_below bound (slice_index_or targets at None) ≡ false → IsFirst targets at
first_here targets bound at is above k =
    no_lower (slice_index_or targets k None) bound (slice_index_or targets at None) (is k) above

-- ---- one after the other
-- no target so far is less than that of a node
abbrev pub IsFirstOf : List (Option ℕ) → ℕ → ℕ → Type 0
IsFirstOf targets count first =
    (k : ℕ) → k < count → is_below (slice_index_or targets k None) (slice_index_or targets first None) ≡ false

pub lower_one : (targets : List (Option ℕ)) (at first : ℕ) → IsFirstOf targets at first
    → is_below (slice_index_or targets at None) (slice_index_or targets first None) ≡ true
    → IsFirstOf targets (at + 1) at
lower_one targets at first so_far below k lt = elim (cases_lt k at) [
  | inl less ↦ below_bound (slice_index_or targets at None) (slice_index_or targets first None)
      (slice_index_or targets k None) below (so_far k less)
  | inr more ↦ (let same : at ≡ k = omega (arith, lt, more) in
      subst (λ n. is_below (slice_index_or targets n None) (slice_index_or targets at None) ≡ false) same
      (not_below_itself (slice_index_or targets at None)))
]

pub higher_one : (targets : List (Option ℕ)) (at first : ℕ) → IsFirstOf targets at first
    → is_below (slice_index_or targets at None) (slice_index_or targets first None) ≡ false
    → IsFirstOf targets (at + 1) first
higher_one targets at first so_far above k lt = elim (cases_lt k at) [
  | inl less ↦ so_far k less
  | inr more ↦ (let same : at ≡ k = omega (arith, lt, more) in
      subst (λ n. is_below (slice_index_or targets n None) (slice_index_or targets first None) ≡ false) same above)
]

pub first_of_all : (targets : List (Option ℕ)) (count first : ℕ) → length targets ≤ count
    → IsFirstOf targets count first → IsFirst targets first
first_of_all targets count first past all k = elim (cases_lt k (length targets)) [
  | inl within ↦ all k (omega (arith, within, past))
  | inr out ↦ subst (λ o. is_below o (slice_index_or targets first None) ≡ false)
      (sym (get_or_past targets k None out)) refl
]

-- ---- which node has a target, and which has the smallest one
pub some_within : (targets : List (Option ℕ)) (node own : ℕ) → slice_index_or targets node None ≡ Some own
    → node < length targets
some_within targets node own is = elim (cases_lt node (length targets)) [
  | inl within ↦ within
  | inr out ↦ (let both : ◌≡◌ {A = Option ℕ} None (Some own) = sym (get_or_past targets node None out) ∙ is in
      absurd (cc))
]

pub least_of : (targets : List (Option ℕ)) (first other own least theirs : ℕ) → IsFirst targets first
    → slice_index_or targets first None ≡ Some least → own ≤ least → slice_index_or targets other None ≡ Some theirs
    → own ≤ theirs
least_of targets first other own least theirs is there le told =
    let above : nat_lt theirs least ≡ false = sym (ap₂ is_below told there) ∙ is other in
    let high = ltb-false theirs least above in
    omega (arith, le, high)
