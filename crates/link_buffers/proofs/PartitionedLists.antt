-- A list whose first part passes a test and whose rest fails it: what filtering it, counting in it and inserting
-- between the two parts give.
use Rattle.std.proofs.Common.{◌≡◌, ℕ, zero, suc, ◌+◌, ◌-◌, ◌<◌, ◌≤◌, Bool, true, false, List, [], ◌∷◌, length, get_or}
use Rattle.std.proofs.Common.{take, drop, filter, count_by, All, AllPairs, insert, ⊎_elim, refl, sym, ap, ◌∙◌, arith}
use Rattle.std.specs.List.Sorted.{IsPartitionPoint}
use Rattle.std.proofs.lemmas.List.Edits.{length-insert, get_or-insert_at, get_or-insert_below, get_or-insert_above}
use Rattle.std.proofs.lemmas.Bool.{cases_lt}
use Rattle.std.proofs.lemmas.Grind.{common_steps}
use Rattle.std.proofs.lemmas.List.Sums.{length-filter}

module _ {X : Type 0} where
  filter_none : (p : X → Bool) (xs : List X) → All (λ x. p x ≡ false) xs → filter p xs ≡ []
  filter_none p [] none = refl
  filter_none p (x ∷ xs) none =
      let here : p x ≡ false = none 0 x (omega arith) in
      rw here (filter_none p xs (λ k d within. none (suc k) d (omega arith)))

  filter_all : (p : X → Bool) (xs : List X) → All (λ x. p x ≡ true) xs → filter p xs ≡ xs
  filter_all p [] each = refl
  filter_all p (x ∷ xs) each =
      let here : p x ≡ true = each 0 x (omega arith) in
      rw here (ap (λ ys. x ∷ ys) (filter_all p xs (λ k d within. each (suc k) d (omega arith))))

  pub filter_front : (p : X → Bool) (xs : List X) (i : ℕ) → IsPartitionPoint (λ x. p x ≡ true) (λ x. p x ≡ false) xs i
      → i ≤ length xs → filter p xs ≡ take i xs
  filter_front p [] zero parts within = refl
  filter_front p [] (suc i) parts within = absurd (omega arith)
  filter_front p (x ∷ xs) zero parts within = filter_none p (x ∷ xs) (λ k d lt. parts.1 k d (omega arith) lt)
  filter_front p (x ∷ xs) (suc i) parts within =
      let here : p x ≡ true = parts.0 0 x (omega arith) (omega arith) in
      rw here (ap (λ ys. x ∷ ys)
      (filter_front p xs i (
        λ k d low lt. parts.0 (suc k) d (omega arith) (omega arith),
        λ k d low lt. parts.1 (suc k) d (omega arith) (omega arith),
      ) (omega arith)))

  pub filter_rest : (p : X → Bool) (xs : List X) (i : ℕ) → IsPartitionPoint (λ x. p x ≡ false) (λ x. p x ≡ true) xs i
      → i ≤ length xs → filter p xs ≡ drop i xs
  filter_rest p [] zero parts within = refl
  filter_rest p [] (suc i) parts within = absurd (omega arith)
  filter_rest p (x ∷ xs) zero parts within = filter_all p (x ∷ xs) (λ k d lt. parts.1 k d (omega arith) lt)
  filter_rest p (x ∷ xs) (suc i) parts within =
      let here : p x ≡ false = parts.0 0 x (omega arith) (omega arith) in
      rw here (filter_rest p xs i (
        λ k d low lt. parts.0 (suc k) d (omega arith) (omega arith),
        λ k d low lt. parts.1 (suc k) d (omega arith) (omega arith),
      ) (omega arith))

  pub count_front : (p : X → Bool) (xs : List X) (i : ℕ) → IsPartitionPoint (λ x. p x ≡ true) (λ x. p x ≡ false) xs i
      → i ≤ length xs → i ≡ count_by p xs
  count_front p xs i parts within =
      sym (sym (length-filter p xs) ∙ ap length (filter_front p xs i parts within) ∙ grind (arith, common_steps))

  -- ---- one more item, at a place of its own
  pub all_pairs_insert : (R : X → X → Type 0) (xs : List X) (n : ℕ) (y : X) → AllPairs R xs → n ≤ length xs
      → ((k : ℕ) (d : X) → k < n → R (get_or xs k d) y)
      → ((k : ℕ) (d : X) → n ≤ k → k < length xs → R y (get_or xs k d)) → AllPairs R (insert xs n y)
  all_pairs_insert R xs n y pairs within before after i j d lt last =
      let long : length (insert xs n y) ≡ length xs + 1 = length-insert xs n y within in
      let at : (k : ℕ) → k ≡ n → get_or (insert xs n y) k d ≡ y = λ k same. ap (λ m. get_or (insert xs n y) m d) same
      ∙ get_or-insert_at xs n y d within in
      let above : (k : ℕ) → n < k → get_or (insert xs n y) k d ≡ get_or xs (k - 1) d =
      λ k past. let next : k ≡ (k - 1) + 1 = omega arith in
      ap (λ m. get_or (insert xs n y) m d) next ∙ get_or-insert_above xs n y d (k - 1) (omega arith) within in
      ⊎_elim
      (λ (jn : j < n). rw (
        get_or-insert_below xs n y d i (omega arith) within,
        get_or-insert_below xs n y d j jn within,
      ) (pairs i j d lt (omega arith)))
      (λ (nj : n ≤ j). ⊎_elim
      (λ (below : i < n). ⊎_elim
      (λ (past : n < j). rw (get_or-insert_below xs n y d i below within, above j past)
      (pairs i (j - 1) d (omega arith) (omega arith)))
      (λ (here : j ≤ n). rw (get_or-insert_below xs n y d i below within, at j (omega arith)) (before i d below))
      (cases_lt n j))
      (λ (ni : n ≤ i). ⊎_elim
      (λ (past : n < i). rw (above i past, above j (omega arith)) (pairs (i - 1) (j - 1) d (omega arith) (omega arith)))
      (λ (here : i ≤ n). rw (at i (omega arith), above j (omega arith)) (after (j - 1) d (omega arith) (omega arith)))
      (cases_lt n i))
      (cases_lt i n))
      (cases_lt j n)
