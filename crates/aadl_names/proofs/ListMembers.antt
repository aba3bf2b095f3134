-- What is a member of a list of one and of a list of lists, and which item passes a test if any does.
use Rattle.std.proofs.Common.{◌≡◌, ◌⊎◌, Bool, true, false, ◌||◌, List, [], ◌∷◌, ◌++◌, Contains, refl, sym, subst, inl}
use Rattle.std.proofs.Common.{inr, lit<, zero, suc, arith}
use Rattle.std.specs.List.{list_any, flat_map}
use Rattle.std.proofs.lemmas.Bool.{true≢false}
use Rattle.std.proofs.lemmas.List.Elements.{Contains-append_left, Contains-append_right, Contains-append_cases}
use Rattle.list_lemmas.proofs.Elements.{Contains-nil, Contains-cons_cases}

pub is_here : {X : Type 0} (x : X) → Contains (x ∷ []) x
is_here x = (0, lit< tt, refl)

pub only_here : {X : Type 0} (x y : X) → Contains (x ∷ []) y → x ≡ y
only_here x y (zero, within, is) = is
only_here x y (suc k, within, is) = absurd (omega arith)

-- what a list of lists has
among_by : {X Y : Type 0} (f : X → List Y) (z : X) (xs : List X) (x : X) (y : Y) → Contains (f x) y
    → (Contains xs x → Contains (flat_map f xs) y)
    → (z ≡ x) ⊎ Contains xs x → Contains (f z ++ flat_map f xs) y
among_by f z xs x y here rest (inl e) =
    Contains-append_left (f z) (flat_map f xs) y (subst (λ w. Contains (f w) y) (sym e) here)
among_by f z xs x y here rest (inr h) = Contains-append_right (f z) (flat_map f xs) y (rest h)

pub among_all : {X Y : Type 0} (f : X → List Y) (xs : List X) (x : X) (y : Y) → Contains xs x → Contains (f x) y
    → Contains (flat_map f xs) y
among_all f [] x y there here = absurd (Contains-nil x there)
among_all f (z ∷ xs) x y there here =
    among_by f z xs x y here (λ h. among_all f xs x y h here) (Contains-cons_cases z xs x there)

pub record Source {X Y : Type 0} (f : X → List Y) (xs : List X) (y : Y) : Type 0 where
  pub item : X
  pub there : Contains xs item
  pub here : Contains (f item) y

from_by : {X Y : Type 0} (f : X → List Y) (x : X) (xs : List X) (y : Y) → (Contains (flat_map f xs) y → Source f xs y)
    → Contains (f x) y ⊎ Contains (flat_map f xs) y → Source f (x ∷ xs) y
from_by f x xs y rest (inl a) = record { item = x; there = Contains-append_left (x ∷ []) xs x (is_here x); here = a }
from_by f x xs y rest (inr b) = let s = rest b in
    record { item = s.item; there = Contains-append_right (x ∷ []) xs s.item s.there; here = s.here }

pub from_all : {X Y : Type 0} (f : X → List Y) (xs : List X) (y : Y) → Contains (flat_map f xs) y → Source f xs y
from_all f [] y h = absurd (Contains-nil y h)
from_all f (x ∷ xs) y h = from_by f x xs y (λ b. from_all f xs y b) (Contains-append_cases (f x) (flat_map f xs) y h)

pub record Passing {X : Type 0} (p : X → Bool) (xs : List X) : Type 0 where
  pub item : X
  pub there : Contains xs item
  pub passes : p item ≡ true

passing_by : {X : Type 0} (p : X → Bool) (x : X) (xs : List X) → (list_any p xs ≡ true → Passing p xs) → (b : Bool)
    → p x ≡ b → (b || list_any p xs) ≡ true
    → Passing p (x ∷ xs)
passing_by p x xs rest true e h =
    record { item = x; there = Contains-append_left (x ∷ []) xs x (is_here x); passes = e }
passing_by p x xs rest false e h = let s = rest h in
    record { item = s.item; there = Contains-append_right (x ∷ []) xs s.item s.there; passes = s.passes }

pub passing : {X : Type 0} (p : X → Bool) (xs : List X) → list_any p xs ≡ true → Passing p xs
passing p [] h = absurd (true≢false (sym h))
passing p (x ∷ xs) h = passing_by p x xs (λ r. passing p xs r) (p x) refl h
