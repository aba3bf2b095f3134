-- Lists of which those elements are written over whose item passes a test, place by place, as the tuples of a layer
-- are.
use Rattle.std.proofs.Common.{◌≡◌, ◌∙◌, ℕ, ◌+◌, ◌<◌, ◌≤◌, inl, inr, Bool, true, false, List, length, set, Some}
use Rattle.std.proofs.Common.{slice_get, sym, ap, ap₂, arith, eq-or-lt_of_le}
use Rattle.std.proofs.lemmas.Bool.{false≢true}
use Rattle.std.proofs.lemmas.Option.{slice_get_within}
use Rattle.sync_product.proofs.ComponentLists.{slice_get-set_same, slice_get-set_other}

-- each element before a place that passes the test has the required property
abbrev pub Filled : {L X : Type 0} → List L → (L → Bool) → (ℕ → L → X) → List X → ℕ → Type 0
Filled {L} items test wanted xs at =
    (k : ℕ) (item : L) → k < at → slice_get items k ≡ Some item → test item ≡ true
    → slice_get xs k ≡ Some (wanted k item)

same_item : {L : Type 0} (items : List L) (at k : ℕ) (x y : L) → k ≡ at → slice_get items at ≡ Some x
    → slice_get items k ≡ Some y → x ≡ y
same_item items at k x y same is_x is_y =
    let both : Some x ≡ Some y = sym is_x ∙ ap (slice_get items) (sym same) ∙ is_y in
    cc

pub filled_skip : {L X : Type 0} (items : List L) (test : L → Bool) (wanted : ℕ → L → X) (xs : List X) (at : ℕ)
    (item : L) → slice_get items at ≡ Some item
    → test item ≡ false → Filled items test wanted xs at → Filled items test wanted xs (at + 1)
filled_skip items test wanted xs at item is fails so_far k other below is_other passes =
    let upto : k ≤ at = omega (arith, below) in
    elim (eq-or-lt_of_le upto) [
      | inl here ↦ absurd (false≢true (sym fails ∙ ap test (same_item items at k item other here is is_other) ∙ passes))
      | inr before ↦ so_far k other before is_other passes
    ]

pub filled_put : {L X : Type 0} (items : List L) (test : L → Bool) (wanted : ℕ → L → X) (xs : List X) (at : ℕ)
    (item : L) (y : X) → slice_get items at ≡ Some item
    → at < length xs → y ≡ wanted at item → Filled items test wanted xs at
    → Filled items test wanted (set xs at y) (at + 1)
filled_put items test wanted xs at item y is within value so_far k other below is_other passes =
    let upto : k ≤ at = omega (arith, below) in
    elim (eq-or-lt_of_le upto) [
      | inl here ↦
          ap (slice_get (set xs at y)) here ∙ slice_get-set_same xs at y within
          ∙ ap Some (value ∙ ap₂ wanted (sym here) (same_item items at k item other here is is_other))
      | inr before ↦ slice_get-set_other xs at k y before ∙ so_far k other before is_other passes
    ]

pub filled_all : {L X : Type 0} (items : List L) (test : L → Bool) (wanted : ℕ → L → X) (xs : List X) (at : ℕ)
    → length items ≤ at → Filled items test wanted xs at
    → (k : ℕ) (item : L) → slice_get items k ≡ Some item → test item ≡ true → slice_get xs k ≡ Some (wanted k item)
filled_all items test wanted xs at past filled k item is passes =
    let within = slice_get_within items k item is in
    filled k item (omega (arith, within, past)) is passes
