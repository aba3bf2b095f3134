-- Values that a loop assigns to declarations in a containment order: the values of the first ones are correct.
use Rattle.std.proofs.Common.{◌≡◌, ℕ, ◌+◌, ◌<◌, ◌≤◌, List, length, Some, None, get_or, set, slice_get, sym, ap, ◌∙◌}
use Rattle.std.proofs.Common.{subst, arith, inl, inr, ◌⊎◌, get_or-set_other, get_or-set_same}
use Rattle.std.proofs.lemmas.Bool.{cases_order, cases_lt}
use Rattle.std.proofs.lemmas.List.{length-set}
use Rattle.std.proofs.lemmas.Option.{none-some, same_Some}
use Rattle.list_lemmas.proofs.ElementPositions.{slice_get-from_Contains, Contains-from_slice_get}
use Rattle.aadl_uses.specs.proof.ContainmentGraphs.{Graph, below_in}
use Rattle.aadl_uses.specs.proof.ContainmentOrders.{IsSequence, IsOrder}

-- a value for each declaration; the values of the first `at` declarations of a sequence are correct
pub record FrontOf {X : Type 0} (Right : ℕ → X → Type 0) (d : X) (g : Graph) (keys : List ℕ) (at : ℕ)
    (values : List X) : Type 0 where
  pub size : length values ≡ length g
  pub known : (k n : ℕ) → k < at → slice_get keys k ≡ Some n → Right n (get_or values n d)

pub no_front : {X : Type 0} (Right : ℕ → X → Type 0) (d : X) (g : Graph) (keys : List ℕ) (values : List X)
    → length values ≡ length g → FrontOf Right d g keys 0 values
no_front Right d g keys values size = record { size = size; known = λ k n lt e. absurd (omega arith) }

module _ {X : Type 0} (Right : ℕ → X → Type 0) (d : X) (g : Graph) (keys : List ℕ) (at : ℕ) (values : List X)
    (front : FrontOf Right d g keys at values) where
  -- the values of the declarations that the next one contains are correct
  pub front_known : (n : ℕ) → IsSequence g keys → slice_get keys at ≡ Some n → (s m : ℕ) → below_in g n s ≡ Some m
      → Right m (get_or values m d)
  front_known n sequence here s m e = let j = sequence.behind at n s m here e in front.known j.0 m j.1 j.2

  -- the value of the next one is already correct, or there is no next one
  pub front_same : ((n : ℕ) → slice_get keys at ≡ Some n → Right n (get_or values n d))
      → FrontOf Right d g keys (at + 1) values
  front_same as_is = record { size = front.size; known = λ k n lt e. by k n e (cases_lt k at) lt }
    where
      by : (k n : ℕ) → slice_get keys k ≡ Some n → (k < at) ⊎ (at ≤ k) → k < at + 1 → Right n (get_or values n d)
      by k n e (inl h) lt = front.known k n h e
      by k n e (inr h) lt = let same : k ≡ at = omega arith in as_is n (ap (slice_get keys) (sym same) ∙ e)

  pub front_past : slice_get keys at ≡ None → FrontOf Right d g keys (at + 1) values
  front_past none = front_same (λ n e. absurd (none-some n (sym none ∙ e)))

  pub front_more : (n : ℕ) (value : X) → IsSequence g keys → slice_get keys at ≡ Some n → Right n value
      → FrontOf Right d g keys (at + 1) (set values n value)
  front_more n value sequence here right = record {
    size = length-set values n value ∙ front.size;
    known = λ k m lt e. by k m e (cases_lt k at) lt;
  }
    where
      here_is : n < length values
      here_is = let declared = sequence.declared n (Contains-from_slice_get keys at n here) in omega (arith, front.size)

      own : Right n (get_or (set values n value) n d)
      own = subst (Right n) (sym (get_or-set_same values n value d here_is)) right

      other : (k m : ℕ) → k < at → slice_get keys k ≡ Some m → (n ≡ m) ⊎ ((n < m) ⊎ (m < n))
          → Right m (get_or (set values n value) m d)
      other k m lt e (inl same) = subst (λ x. Right x (get_or (set values n value) x d)) same own
      other k m lt e (inr (inl h)) =
          subst (Right m) (sym (get_or-set_other values n m value d (omega arith))) (front.known k m lt e)
      other k m lt e (inr (inr h)) =
          subst (Right m) (sym (get_or-set_other values n m value d (omega arith))) (front.known k m lt e)

      by : (k m : ℕ) → slice_get keys k ≡ Some m → (k < at) ⊎ (at ≤ k) → k < at + 1
          → Right m (get_or (set values n value) m d)
      by k m e (inl h) lt = other k m h e (cases_order n m)
      by k m e (inr h) lt =
          let same : k ≡ at = omega arith in
          subst (λ x. Right x (get_or (set values n value) x d))
          (same_Some n m (sym here ∙ (ap (slice_get keys) (sym same) ∙ e))) own

  -- all of them
  pub front_all : IsOrder g keys → length keys ≤ at → (n : ℕ) → n < length g → Right n (get_or values n d)
  front_all order past n lt =
      let there = order.all n lt in
      let within = there.1 in
      front.known there.0 n (omega arith) (slice_get-from_Contains keys n there)
