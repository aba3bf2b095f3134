-- The elements of a list: membership, properties of all elements, and the elements that pass a test.
use Rattle.std.proofs.Common.{◌≡◌, ◌∙◌, ◌⊎◌, inl, inr, ℕ, Bool, true, false, cond, ◌||◌, nat_eq, List, [], ◌∷◌, ◌++◌}
use Rattle.std.proofs.Common.{map, get_or, Contains, All, Option, Some, refl, sym, ap, subst, arith, slice_get, zero}
use Rattle.std.proofs.Common.{suc}
use Rattle.std.specs.Prelude.{find}
use Rattle.std.specs.List.{list_any, list_all, AllByRecursion}
use Rattle.std.proofs.lemmas.Bool.{cases_Bool, eq-eqb}
use Rattle.std.proofs.lemmas.List.Elements.{Contains-append_cases, Contains-append_right, Contains-push_cases}
use Rattle.std.proofs.lemmas.List.Elements.{All-contains, All-tail}
use Rattle.std.proofs.lemmas.List.Folds.{list_any_at}
use Rattle.std.proofs.lemmas.List.Sums.{AllPass-from_list_all}
use Rattle.std.proofs.lemmas.Option.{same_Some}

-- ---- membership
pub Contains-nil : {X : Type 0} (x : X) → Contains [] x → ⊥
Contains-nil x (k, within, is) = omega arith

pub Contains-head : {X : Type 0} (x : X) (xs : List X) → Contains (x ∷ xs) x
Contains-head x xs = (0, omega arith, refl)

pub Contains-cons : {X : Type 0} (y x : X) (xs : List X) → Contains xs x → Contains (y ∷ xs) x
Contains-cons y x xs there = Contains-append_right (y ∷ []) xs x there

Contains-one : {X : Type 0} (x y : X) → Contains [] y ⊎ (x ≡ y) → x ≡ y
Contains-one x y (inl none) = absurd (Contains-nil y none)
Contains-one x y (inr same) = same

pub Contains-cons_cases : {X : Type 0} (x : X) (xs : List X) (y : X) → Contains (x ∷ xs) y → (x ≡ y) ⊎ Contains xs y
Contains-cons_cases x xs y there = elim (Contains-append_cases (x ∷ []) xs y there) [
  | inl first ↦ inl (Contains-one x y (Contains-push_cases [] x y first))
  | inr later ↦ inr later
]

-- ---- properties of all elements
pub All-append_right : {X : Type 0} (P : X → Type 0) (xs ys : List X) → All P (xs ++ ys) → All P ys
All-append_right P [] ys all = all
All-append_right P (x ∷ xs) ys all = All-append_right P xs ys (All-tail P x (xs ++ ys) all)

pub AllByRecursion-append : {X : Type 0} (P : X → Type 0) (xs ys : List X) → AllByRecursion P xs → AllByRecursion P ys
    → AllByRecursion P (xs ++ ys)
AllByRecursion-append P [] ys first second = second
AllByRecursion-append P (x ∷ xs) ys first second = (first.0, AllByRecursion-append P xs ys first.1 second)

pub AllByRecursion-map : {X Y : Type 0} (P : Y → Type 0) (f : X → Y) (xs : List X) → AllByRecursion (λ x. P (f x)) xs
    → AllByRecursion P (map f xs)
AllByRecursion-map P f [] all = tt
AllByRecursion-map P f (x ∷ xs) all = (all.0, AllByRecursion-map P f xs all.1)

pub AllByRecursion-weaker : {X : Type 0} (P Q : X → Type 0) → ((x : X) → P x → Q x) → (xs : List X)
    → AllByRecursion P xs → AllByRecursion Q xs
AllByRecursion-weaker P Q weaker [] all = tt
AllByRecursion-weaker P Q weaker (x ∷ xs) all = (weaker x all.0, AllByRecursion-weaker P Q weaker xs all.1)

pub AllByRecursion-at : {X : Type 0} (P : X → Type 0) (xs : List X) (n : ℕ) (x : X) → AllByRecursion P xs
    → slice_get xs n ≡ Some x → P x
AllByRecursion-at P [] n x h is = absurd (cc is)
AllByRecursion-at P (y ∷ xs) zero x h is = subst P (same_Some y x is) h.0
AllByRecursion-at P (y ∷ xs) (suc n) x h is = AllByRecursion-at P xs n x h.1 is

-- ---- the elements that pass a test
pub passes_by_list_all : {X : Type 0} (p : X → Bool) (xs : List X) (x : X) → list_all p xs ≡ true → Contains xs x
    → p x ≡ true
passes_by_list_all p xs x all there = All-contains (λ x. p x ≡ true) xs x (AllPass-from_list_all p xs all) there

pub list_any_by_element : {X : Type 0} (p : X → Bool) (xs : List X) (x : X) → Contains xs x → p x ≡ true
    → list_any p xs ≡ true
list_any_by_element p xs x there passes = list_any_at p xs there.0 x there.1 (ap p there.2 ∙ passes)

pub list_any_by_number : (xs : List ℕ) (n : ℕ) → Contains xs n → list_any (nat_eq n) xs ≡ true
list_any_by_number xs n there =
    list_any_at (nat_eq n) xs there.0 n there.1 (eq-eqb n (get_or xs there.0 n) (sym there.2))

pub list_any-map : {X Y : Type 0} (p : Y → Bool) (f : X → Y) (xs : List X)
    → list_any p (map f xs) ≡ list_any (λ x. p (f x)) xs
list_any-map p f [] = refl
list_any-map p f (x ∷ xs) = ap (λ b. p (f x) || b) (list_any-map p f xs)

-- a property of the first of two elements if it is found, and of the element found after it otherwise
pub found_either : {X : Type 0} (P : X → Type 0) (b : Bool) (y x : X) (rest : Option X) → P y → (rest ≡ Some x → P x)
    → cond b (Some y) rest ≡ Some x → P x
found_either P true y x rest here later is = subst P (same_Some y x is) here
found_either P false y x rest here later is = later is

pub find-passes : {X : Type 0} (p : X → Bool) (xs : List X) (x : X) → find p xs ≡ Some x → p x ≡ true
find-passes p [] x is = absurd (cc)
find-passes p (y ∷ ys) x is = elim (cases_Bool (p y)) [
  | inl holds ↦
      let two : Some y ≡ Some x = sym (ap (λ b. cond b (Some y) (find p ys)) holds) ∙ is in
      let same : y ≡ x = cc in
      sym (ap p same) ∙ holds
  | inr fails ↦ find-passes p ys x (sym (ap (λ b. cond b (Some y) (find p ys)) fails) ∙ is)
]
