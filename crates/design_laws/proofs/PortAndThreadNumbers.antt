-- The number of a port among the ports of its direction, and the number of a thread.
use Rattle.std.proofs.Common.{◌≡◌, ◌∙◌, inl, inr, ◌⊎◌, ℕ, zero, suc, ◌+◌, ◌<◌, Bool, true, false, cond, List, [], ◌∷◌}
use Rattle.std.proofs.Common.{length, reverse, take, Option, Some, AllPairs, Contains, refl, sym, ap, subst, arith}
use Rattle.std.specs.Prelude.{slice_get, filter, count_by}
use Rattle.std.specs.List.{position_from}
use Rattle.std.specs.Option.{option_map_or}
use Rattle.std.proofs.lemmas.Bool.{false≢true, cases_order}
use Rattle.std.proofs.lemmas.List.Sums.{length-filter}
use Rattle.std.proofs.lemmas.Option.{same_Some, slice_get-get_or}
use Rattle.list_lemmas.proofs.PairwiseProperties.{AllPairs-slice_get}
use Rattle.aadl_uses.specs.ThreadsBelow.{PathBefore, path_before}
use Rattle.aadl_uses.proofs.PathOrder.{one_way_paths}
use Rattle.aadl_chains.specs.LinksFeedsAndTaps.{same_path}
use Rattle.aadl_chains.proofs.SamePaths.{same_path-true, same_path-self}
use Rattle.aadl_instance.specs.InstancesByNumbers.{node_at}
use Rattle.design_laws.proofs.InstanceBehaviours.{first_is}

-- ---- the elements that pass a test, by the number of the earlier ones
module _ {X : Type 0} (p : X → Bool) where
  kept_by : (b : Bool) (y x : X) (front ys : List X) → slice_get ys (length front) ≡ Some x
      → slice_get (cond b (y ∷ ys) ys) (length (cond b (y ∷ front) front)) ≡ Some x
  kept_by true y x front ys is = is
  kept_by false y x front ys is = is

  here_by : (b : Bool) (y x : X) (ys : List X) → b ≡ true → y ≡ x → slice_get (cond b (y ∷ ys) ys) 0 ≡ Some x
  here_by true y x ys passes e = ap Some e
  here_by false y x ys passes e = absurd (false≢true passes)

  kept_behind : (xs : List X) (i : ℕ) (x : X) → slice_get xs i ≡ Some x → p x ≡ true
      → slice_get (filter p xs) (length (filter p (take i xs))) ≡ Some x
  kept_behind [] i x is passes = absurd (cc is)
  kept_behind (y ∷ xs) zero x is passes = let e = same_Some y x is in
      here_by (p y) y x (filter p xs) (subst (λ z. p z ≡ true) (sym e) passes) e
  kept_behind (y ∷ xs) (suc i) x is passes =
      kept_by (p y) y x (filter p (take i xs)) (filter p xs) (kept_behind xs i x is passes)

  pub kept_at : (xs : List X) (i : ℕ) (x : X) → slice_get xs i ≡ Some x → p x ≡ true
      → slice_get (filter p xs) (count_by p (take i xs)) ≡ Some x
  kept_at xs i x is passes =
      ap (slice_get (filter p xs)) (sym (length-filter p (take i xs))) ∙ kept_behind xs i x is passes

  one_more : (b : Bool) (y : X) (front back : List X) → length front < length back
      → length (cond b (y ∷ front) front) < length (cond b (y ∷ back) back)
  one_more true y front back lt = omega (arith, lt)
  one_more false y front back lt = lt

  some_before : (b : Bool) (y : X) (ys : List X) → b ≡ true → 0 < length (cond b (y ∷ ys) ys)
  some_before true y ys is = omega arith
  some_before false y ys is = absurd (false≢true is)

  less_behind : (xs : List X) (i j : ℕ) (x : X) → i < j → slice_get xs i ≡ Some x → p x ≡ true
      → length (filter p (take i xs)) < length (filter p (take j xs))
  less_behind [] i j x lt is passes = absurd (cc is)
  less_behind (y ∷ xs) i zero x lt is passes = absurd (omega arith)
  less_behind (y ∷ xs) zero (suc j) x lt is passes = some_before (p y) y (filter p (take j xs))
      (subst (λ z. p z ≡ true) (sym (same_Some y x is)) passes)
  less_behind (y ∷ xs) (suc i) (suc j) x lt is passes = one_more (p y) y (filter p (take i xs)) (filter p (take j xs))
      (less_behind xs i j x (omega arith) is passes)

  pub count_less : (xs : List X) (i j : ℕ) (x : X) → i < j → slice_get xs i ≡ Some x → p x ≡ true
      → count_by p (take i xs) < count_by p (take j xs)
  count_less xs i j x lt is passes =
      let a = length-filter p (take i xs) in
      let b = length-filter p (take j xs) in
      let h = less_behind xs i j x lt is passes in
      omega (arith, a, b, h)

-- ---- the number of a thread
position_by : {X : Type 0} (p : X → Bool) (from : ℕ) (b : Bool) (rest : Option ℕ)
    → (b ≡ false → (n : ℕ) × (rest ≡ Some n))
    → (n : ℕ) × (cond b (Some from) rest ≡ Some n)
position_by p from true rest later = (from, refl)
position_by p from false rest later = later refl

position_some : {X : Type 0} (p : X → Bool) (from : ℕ) (xs : List X) (k : ℕ) (x : X) → slice_get xs k ≡ Some x
    → p x ≡ true
    → (n : ℕ) × (position_from p from xs ≡ Some n)
position_some p from [] k x is passes = absurd (cc is)
position_some p from (y ∷ xs) zero x is passes =
    position_by p from (p y) (position_from p (from + 1) xs) (λ not_here. absurd
    (false≢true (sym not_here ∙ subst (λ z. p z ≡ true) (sym (same_Some y x is)) passes)))
position_some p from (y ∷ xs) (suc k) x is passes = position_by p from (p y) (position_from p (from + 1) xs)
    (λ _. position_some p (from + 1) xs k x is passes)

pub at_from : {X : Type 0} (xs : List X) (x : X) → Contains xs x → (k : ℕ) × (slice_get xs k ≡ Some x)
at_from xs x h = (h.0, slice_get-get_or xs h.0 x h.1 ∙ ap Some h.2)

pub record IsNode (threads : List (List ℕ)) (path : List ℕ) : Type 0 where
  pub place : ℕ
  pub number : (node_at threads path).0 ≡ place
  pub is : slice_get threads place ≡ Some path

pub is_node : (threads : List (List ℕ)) (path : List ℕ) → Contains threads path → IsNode threads path
is_node threads path h =
    let at = at_from threads path h in
    let found = position_some (same_path path) 0 threads at.0 path at.1 (same_path-self path) in
    let f = first_is (same_path path) 0 found.0 threads found.1 in
    let e : found.0 ≡ f.place = let n = f.number in omega (arith, n) in
    record {
      place = f.place;
      number = ap (λ o. option_map_or (λ n. n) o 0) found.1 ∙ e;
      is = f.is ∙ ap Some (sym (same_path-true path f.one f.passes));
    }

module _ (threads : List (List ℕ)) (sorted : AllPairs PathBefore threads) where
  number_by : (p q : List ℕ) (m n : ℕ) → (m ≡ n) ⊎ ((m < n) ⊎ (n < m)) → slice_get threads m ≡ Some p
      → slice_get threads n ≡ Some q
      → path_before (reverse p) (reverse q) ≡ true → m < n
  number_by p q m n (inl e) first second before =
      let same : p ≡ q = same_Some p q (sym first ∙ (ap (slice_get threads) e ∙ second)) in
      absurd (one_way_paths (reverse p) (reverse q) before (subst (λ l. path_before (reverse l) (reverse p) ≡ true) same
      (subst (λ l. path_before (reverse p) (reverse l) ≡ true) (sym same) before)))
  number_by p q m n (inr (inl lt)) first second before = lt
  number_by p q m n (inr (inr lt)) first second before = absurd (one_way_paths (reverse p) (reverse q) before
      (AllPairs-slice_get PathBefore threads n m q p sorted lt second first))

  pub numbers_rise : (p q : List ℕ) → (a : IsNode threads p) (b : IsNode threads q)
      → path_before (reverse p) (reverse q) ≡ true → a.place < b.place
  numbers_rise p q a b before = number_by p q a.place b.place (cases_order a.place b.place) a.is b.is before
