-- For `are_distinct`: lists in which each element is related to all later ones, as names in ascending order are.
use Rattle.std.proofs.Common.{◌≡◌, ℕ, zero, suc, ◌+◌, ◌-◌, ◌<◌, inl, inr, Bool, true, false, IsTrue, ◌↔◌, nat_lt, List}
use Rattle.std.proofs.Common.{[], ◌∷◌, length, get_or, take, drop, All, AllPairs, refl, sym, ap, ◌∙◌, subst, arith}
use Rattle.std.proofs.Common.{get_or-take, get_or-drop, length-drop, length-take-le, add-one}
use Rattle.std.specs.List.{AllAdjacentBelow, IsAllAdjacentAnswer}
use Rattle.std.proofs.lemmas.List.{get_or_read}
use Rattle.std.proofs.lemmas.Bool.{false≢true, cases_lt}
use Rattle.std.proofs.lemmas.Bool.Decides.{Decides-ltb}

-- the elements after an index
abbrev pub behind : {X : Type 0} → List X → ℕ → List X
behind xs i = take (length xs - (i + 1)) (drop (i + 1) xs)

length-behind : {X : Type 0} (xs : List X) (i : ℕ) → length (behind xs i) ≡ length xs - (i + 1)
length-behind xs i = length-take-le (length xs - (i + 1)) (drop (i + 1) xs) (omega (arith, length-drop (i + 1) xs))

get_or-behind : {X : Type 0} (xs : List X) (i k : ℕ) (d : X) → k < length xs - (i + 1)
    → get_or (behind xs i) k d ≡ get_or xs ((i + 1) + k) d
get_or-behind xs i k d within =
    get_or-take (length xs - (i + 1)) (drop (i + 1) xs) k d within ∙ get_or-drop (i + 1) xs k d

-- a property of all pairs holds for an element and the later ones
pub All-behind : {X : Type 0} (R : X → X → Type 0) (xs : List X) (i : ℕ) (x : X) → i < length xs → x ≡ get_or xs i x
    → AllPairs R xs → All (R x) (behind xs i)
All-behind R xs i x within read all k d below =
    let at : k < length xs - (i + 1) = omega (arith, length-behind xs i) in
    subst (R x) (sym (get_or-behind xs i k d at))
    (subst (λ y. R y (get_or xs ((i + 1) + k) d)) (sym (get_or_read xs i x within read d))
    (all i ((i + 1) + k) d (omega arith) (omega arith)))

-- one more element is related to the later ones
pub pairs_more : {X : Type 0} (R : X → X → Type 0) (xs : List X) (i : ℕ) (x : X) → i < length xs → x ≡ get_or xs i x
    → All (R x) (behind xs i) → ((k j : ℕ) (d : X) → k < i → k < j → j < length xs → R (get_or xs k d) (get_or xs j d))
    → (k j : ℕ) (d : X) → k < i + 1 → k < j → j < length xs → R (get_or xs k d) (get_or xs j d)
pairs_more R xs i x within read here before k j d below later inside =
    elim (cases_lt k i) [ inl lower ↦ before k j d lower later inside | inr not_lower ↦ at (omega arith) ]
  where
    at : k ≡ i → R (get_or xs k d) (get_or xs j d)
    at same =
        let place : j - (i + 1) < length xs - (i + 1) = omega arith in
        let e : (i + 1) + (j - (i + 1)) ≡ j = omega arith in
        let fact : R x (get_or (behind xs i) (j - (i + 1)) d) =
        here (j - (i + 1)) d (omega (arith, length-behind xs i)) in
        let fact' : R x (get_or xs j d) =
        subst (R x) (get_or-behind xs i (j - (i + 1)) d place ∙ ap (λ n. get_or xs n d) e) fact in
        subst (λ y. R y (get_or xs j d)) (get_or_read xs i x within read d ∙ ap (λ n. get_or xs n d) (sym same)) fact'

-- if each element is below the next, each is below all later ones
rising : {X : Type 0} (key : X → ℕ) (xs : List X) → AllAdjacentBelow (λ x y. key x < key y) xs (length xs)
    → (i j : ℕ) (d : X) → i < j → j < length xs → key (get_or xs i d) < key (get_or xs j d)
rising key xs next i zero d below within = absurd (omega arith)
rising key xs next i (suc j) d below within =
    let step : key (get_or xs j d) < key (get_or xs (suc j) d) = rw add-one at (next j d (omega arith)) in
    elim (cases_lt i j) [
      | inl lower ↦ (let before : key (get_or xs i d) < key (get_or xs j d) =
          rising key xs next i j d lower (omega arith) in omega arith)
      | inr not_lower ↦ (let same : i ≡ j = omega arith in
          subst (λ n. key (get_or xs n d) < key (get_or xs (suc j) d)) (sym same) step)
    ]

-- an element of a list that is not empty
some_element : {X : Type 0} (xs : List X) → 0 < length xs → X
some_element [] within = absurd (omega arith)
some_element (x ∷ xs) within = x

-- the result of `is_sorted_by` if it compares keys by `<`
pub rising_answer : {X : Type 0} (key : X → ℕ) (xs : List X) (r : Bool)
    → IsAllAdjacentAnswer (λ x y b. b ≡ nat_lt (key x) (key y)) xs r → IsTrue r ↔ AllPairs (λ x y. key x < key y) xs
rising_answer key xs true h = (
  λ _. rising key xs (λ k d within. (Decides-ltb _ _).0 (sym (h k d within))),
  λ _. refl,
)
rising_answer key xs false h = (
  λ e. absurd (false≢true e),
  λ all.
      let d = some_element xs (omega (arith, h.1)) in
      h.2 d ∙ (Decides-ltb _ _).1 (all h.0 (h.0 + 1) d (omega arith) h.1),
)
