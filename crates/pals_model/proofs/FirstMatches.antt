-- For laws that look up components, links and states: the first element of a list that passes a test.
use Rattle.std.proofs.Common.{◌≡◌, ℕ, suc, ◌+◌, ◌<◌, Bool, true, false, cond, List, [], ◌∷◌, slice_get, Some, None, All}
use Rattle.std.proofs.Common.{refl, sym, ap, ◌∙◌, subst, arith}
use Rattle.std.specs.Prelude.{position}
use Rattle.std.specs.List.{position_from}
use Rattle.std.proofs.lemmas.Iterator.Adapters.{position_from-zero}
use Rattle.std.proofs.lemmas.List.Elements.{All-head, All-tail}
use Rattle.std.proofs.lemmas.Option.{get_or_from_slice_get, slice_get_within}
use Rattle.list_lemmas.proofs.ElementPositions.{position_from-at}

-- a property of all, at one element
pub at_element : {X : Type 0} (P : X → Type 0) (xs : List X) (n : ℕ) (x : X) → All P xs → slice_get xs n ≡ Some x → P x
at_element P xs n x all is_x = subst P (get_or_from_slice_get xs n x x is_x) (all n x (slice_get_within xs n x is_x))

-- an element that passes, where none before it does
pub first_at : {X : Type 0} (test : X → Bool) (xs : List X) (n : ℕ) (x : X) → slice_get xs n ≡ Some x → test x ≡ true
    → ((k : ℕ) (y : X) → k < n → slice_get xs k ≡ Some y → test y ≡ false) → position test xs ≡ Some n
first_at test xs n x is_x passes before =
    position_from-zero test xs ∙ position_from-at test xs 0 n x is_x passes before ∙ ap Some (omega arith)

none_from : {X : Type 0} (test : X → Bool) (xs : List X) (from : ℕ) → All (λ x. test x ≡ false) xs
    → position_from test from xs ≡ None
none_from test [] from fails = refl
none_from test (x ∷ xs) from fails =
    ap (λ b. cond b (Some from) (position_from test (from + 1) xs)) (All-head (λ y. test y ≡ false) x xs fails)
    ∙ none_from test xs (from + 1) (All-tail (λ y. test y ≡ false) x xs fails)

pub none_passes : {X : Type 0} (test : X → Bool) (xs : List X) → All (λ x. test x ≡ false) xs → position test xs ≡ None
none_passes test xs fails = position_from-zero test xs ∙ none_from test xs 0 fails

-- the element at the first place that passes
abbrev FoundAt : {X : Type 0} → (X → Bool) → List X → ℕ → ℕ → Type 0
FoundAt {X} test xs from n = (k : ℕ) × (x : X) × (n ≡ from + k) × (slice_get xs k ≡ Some x) × (test x ≡ true)

found_or : {X : Type 0} (test : X → Bool) (x : X) (xs : List X) (from n : ℕ) (b : Bool) → test x ≡ b
    → cond b (Some from) (position_from test (from + 1) xs) ≡ Some n
    → (position_from test (from + 1) xs ≡ Some n → FoundAt test xs (from + 1) n) → FoundAt test (x ∷ xs) from n
found_or test x xs from n true passes e later = (0, x, (let same : from ≡ n = cc in omega arith), refl, passes)
found_or test x xs from n false fails e later =
    let rest = later e in
    (suc rest.0, rest.1, (let place : n ≡ from + 1 + rest.0 = rest.2 in omega arith), rest.3, rest.4)

found_from : {X : Type 0} (test : X → Bool) (xs : List X) (from n : ℕ) → position_from test from xs ≡ Some n
    → FoundAt test xs from n
found_from test [] from n found = absurd (cc)
found_from test (x ∷ xs) from n found = found_or test x xs from n (test x) refl found (found_from test xs (from + 1) n)

pub found_at : {X : Type 0} (test : X → Bool) (xs : List X) (n : ℕ) → position test xs ≡ Some n
    → (x : X) × (slice_get xs n ≡ Some x) × (test x ≡ true)
found_at test xs n found =
    let at = found_from test xs 0 n (sym (position_from-zero test xs) ∙ found) in
    let same : at.0 ≡ n = omega (arith, at.2) in
    (at.1, sym (ap (slice_get xs) same) ∙ at.3, at.4)
