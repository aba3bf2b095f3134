-- Paths in depth-first order of declaration; the number of a thread is the number of earlier ones.
use Rattle.std.proofs.Common.{◌≡◌, ◌⊎◌, inl, inr, ℕ, ◌<◌, ◌≤◌, Bool, true, false, ◌&&◌, ◌||◌, nat_eq, nat_lt, List, []}
use Rattle.std.proofs.Common.{◌∷◌, length, reverse, drop, slice_get, get_or, AllPairs, Contains, Some, Vec, Global}
use Rattle.std.proofs.Common.{refl, sym, ap, subst, ◌∙◌, arith}
use Rattle.std.proofs.lemmas.Bool.{true≢false, false≢true, cases_lt}
use Rattle.std.proofs.lemmas.Bool.Decides.{nat_tests}
use Rattle.std.proofs.lemmas.List.{length-map, get_or-map, get_or_default, drop_all, drop_more, reverse-reverse}
use Rattle.std.proofs.lemmas.Option.{slice_get_read}
use Rattle.std.specs.List.Sorted.{IsPartitionedBy, IsPartitionPoint}
use Rattle.aadl_uses.specs.ThreadsBelow.{path_before, PathBefore}
use Rattle.aadl_uses.proofs.PathOrder.{never_before}
use Rattle.aadl_instance.specs.proof.ChainsSoFar.{paths_of}

-- ---- the end of a comparison
pub ended_before : (p q : List ℕ) (i : ℕ) → length p ≤ i → i < length q → path_before (drop i p) (drop i q) ≡ true
ended_before p q i ended within =
    ap (λ l. path_before l (drop i q)) (drop_all i p ended) ∙ ap (path_before []) (drop_more q i 0 within)

never_before_nil : (p : List ℕ) → path_before p [] ≡ false
never_before_nil [] = refl
never_before_nil (x ∷ p) = refl

pub never_before_ended : (p q : List ℕ) (i : ℕ) → length q ≤ i → path_before (drop i p) (drop i q) ≡ false
never_before_ended p q i ended = ap (path_before (drop i p)) (drop_all i q ended) ∙ never_before_nil (drop i p)

-- ---- an order
abbrev step : ℕ → ℕ → Bool → Bool
step x y b = nat_lt x y || (nat_eq x y && b)

step_splits : (x y : ℕ) (b : Bool) → step x y b ≡ true → (x < y) ⊎ ((x ≡ y) × (b ≡ true))
step_splits x y true h = by (cases_lt x y)
  where
    by : (x < y) ⊎ (y ≤ x) → (x < y) ⊎ ((x ≡ y) × (true ≡ true))
    by (inl lt) = inl lt
    by (inr le) = inr (grind (arith, nat_tests), refl)
step_splits x y false h = inl (grind (arith, nat_tests))

same_steps : (x y : ℕ) (b : Bool) → x ≡ y → step x y b ≡ b
same_steps x y true e = grind (arith, nat_tests)
same_steps x y false e = grind (arith, nat_tests)

less_steps : (x y : ℕ) (b : Bool) → x < y → step x y b ≡ true
less_steps x y true lt = grind (arith, nat_tests)
less_steps x y false lt = grind (arith, nat_tests)

steps_follow : (x y z : ℕ) (a b c : Bool) → (a ≡ true → b ≡ true → c ≡ true) → (x < y) ⊎ ((x ≡ y) × (a ≡ true))
    → (y < z) ⊎ ((y ≡ z) × (b ≡ true)) → step x z c ≡ true
steps_follow x y z a b c rest (inl h) (inl g) = less_steps x z c (omega arith)
steps_follow x y z a b c rest (inl h) (inr g) = let same = g.0 in less_steps x z c (omega arith)
steps_follow x y z a b c rest (inr h) (inl g) = let same = h.0 in less_steps x z c (omega arith)
steps_follow x y z a b c rest (inr h) (inr g) = same_steps x z c (h.0 ∙ g.0) ∙ rest h.1 g.1

pub before_follows : (p q r : List ℕ) → path_before p q ≡ true → path_before q r ≡ true → path_before p r ≡ true
before_follows [] [] r h g = absurd (false≢true h)
before_follows [] (y ∷ q) [] h g = absurd (false≢true g)
before_follows [] (y ∷ q) (z ∷ r) h g = refl
before_follows (x ∷ p) [] r h g = absurd (false≢true h)
before_follows (x ∷ p) (y ∷ q) [] h g = absurd (false≢true g)
before_follows (x ∷ p) (y ∷ q) (z ∷ r) h g =
    steps_follow x y z (path_before p q) (path_before q r) (path_before p r) (before_follows p q r)
    (step_splits x y (path_before p q) h) (step_splits y z (path_before q r) g)

-- ---- the number of a thread
module _ (threads : List (Vec ℕ Global)) (path : List ℕ) (pairs : AllPairs PathBefore (paths_of threads)) where
  abbrev line : Vec ℕ Global → List ℕ
  line thread = reverse thread.items

  long : length (paths_of threads) ≡ length threads
  long = length-map threads line

  seen : (i : ℕ) (d : Vec ℕ Global) → i < length threads
      → get_or (paths_of threads) i (line d) ≡ line (get_or threads i d)
  seen i d lt = get_or-map line threads i d (line d) lt

  in_turn : (i j : ℕ) (d : Vec ℕ Global) → i < j → j < length threads
      → path_before (get_or threads i d).items (get_or threads j d).items ≡ true
  in_turn i j d less within =
      let a = (get_or threads i d).items in
      let b = (get_or threads j d).items in
      let size = long in
      let given : PathBefore (get_or (paths_of threads) i (line d)) (get_or (paths_of threads) j (line d)) =
      pairs i j (line d) less (omega arith) in
      let left : PathBefore (reverse a) (get_or (paths_of threads) j (line d)) =
      subst (λ l. PathBefore l (get_or (paths_of threads) j (line d))) (seen i d (omega arith)) given in
      let both : PathBefore (reverse a) (reverse b) = subst (PathBefore (reverse a)) (seen j d within) left in
      subst (λ l. path_before l b ≡ true) (reverse-reverse a)
      (subst (λ l. path_before (reverse (reverse a)) l ≡ true) (reverse-reverse b) both)

  pub parted : IsPartitionedBy (λ (thread : Vec ℕ Global). path_before thread.items path) threads
  parted i j d le within h = by (cases_lt i j)
    where
      by : (i < j) ⊎ (j ≤ i) → path_before (get_or threads i d).items path ≡ true
      by (inl lt) =
          before_follows (get_or threads i d).items (get_or threads j d).items path (in_turn i j d lt within) h
      by (inr more) = let same : j ≡ i = omega arith in
          subst (λ k. path_before (get_or threads k d).items path ≡ true) same h

  pub number_found : (n : ℕ)
      → IsPartitionPoint (λ (thread : Vec ℕ Global). path_before thread.items path ≡ true)
      (λ (thread : Vec ℕ Global). path_before thread.items path ≡ false) threads n
      → Contains (paths_of threads) (reverse path) → slice_get (paths_of threads) n ≡ Some (reverse path)
  number_found n point (k, within, is) = by threads refl
    where
      size : k < length threads
      size = let same = long in omega arith

      there : (d : Vec ℕ Global) → (get_or threads k d).items ≡ path
      there d =
          let own : reverse (get_or threads k d).items ≡ reverse path =
          sym (seen k d size) ∙ (get_or_default (paths_of threads) k (line d) (reverse path) within ∙ is) in
          sym (reverse-reverse (get_or threads k d).items) ∙ (ap reverse own ∙ reverse-reverse path)

      itself : (d : Vec ℕ Global) → path_before (get_or threads k d).items path ≡ false
      itself d = subst (λ l. path_before l path ≡ false) (sym (there d)) (never_before path)

      number : (d : Vec ℕ Global) → k ≡ n
      number d = at (cases_lt k n) (cases_lt n k)
        where
          at : (k < n) ⊎ (n ≤ k) → (n < k) ⊎ (k ≤ n) → k ≡ n
          at (inl lt) other = absurd (true≢false (sym (point.0 k d (omega arith) lt) ∙ itself d))
          at (inr le) (inl lt) =
              let before : path_before (get_or threads n d).items path ≡ true =
              subst (λ l. path_before (get_or threads n d).items l ≡ true) (there d) (in_turn n k d lt size) in
              let last = size in
              absurd (true≢false (sym before ∙ point.1 n d (omega arith) (omega arith)))
          at (inr le) (inr more) = omega arith

      by : (all : List (Vec ℕ Global)) → threads ≡ all → slice_get (paths_of threads) n ≡ Some (reverse path)
      by [] e =
          let none = ap length e in
          let last = size in
          absurd (omega arith)
      by (d ∷ all) e =
          subst (λ i. slice_get (paths_of threads) i ≡ Some (reverse path)) (number d)
          (slice_get_read (paths_of threads) (length (paths_of threads)) k (reverse path) refl within (sym is))
