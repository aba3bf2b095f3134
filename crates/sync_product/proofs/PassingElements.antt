-- An element of a list passes a test, or none does.
use Rattle.std.proofs.Common.{◌≡◌, ◌⊎◌, inl, inr, ℕ, suc, Bool, true, false, List, [], ◌∷◌, Some, All, slice_get, refl}
use Rattle.std.proofs.lemmas.List.Elements.{All-nil, All-cons}

-- ---- an element passes a test, or none does
abbrev pub Passes : {X : Type 0} → (X → Bool) → List X → Type 0
Passes {X} test xs = (k : ℕ) × (x : X) × (slice_get xs k ≡ Some x) × (test x ≡ true)

passes_or : {X : Type 0} (test : X → Bool) (x : X) (xs : List X) (b : Bool) → test x ≡ b
    → Passes test xs ⊎ All (λ y. test y ≡ false) xs
    → Passes test (x ∷ xs) ⊎ All (λ y. test y ≡ false) (x ∷ xs)
passes_or test x xs true is later = inl (0, x, refl, is)
passes_or test x xs false is (inl p) = inl (suc p.0, p.1, p.2, p.3)
passes_or test x xs false is (inr none) = inr (All-cons (λ y. test y ≡ false) x xs is none)

pub some_or_none : {X : Type 0} (test : X → Bool) (xs : List X) → Passes test xs ⊎ All (λ x. test x ≡ false) xs
some_or_none test [] = inr (All-nil (λ x. test x ≡ false))
some_or_none test (x ∷ xs) = passes_or test x xs (test x) refl (some_or_none test xs)
