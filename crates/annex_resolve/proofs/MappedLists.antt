-- The list that a loop has built from the elements so far, and from one more: `map` and `flat_map`.
use Rattle.std.proofs.Common.{◌≡◌, ℕ, ◌+◌, ◌<◌, List, [], ◌∷◌, ◌++◌, length, map, take, get_or, ap, ◌∙◌}
use Rattle.std.specs.Prelude.{flat_map}
use Rattle.std.proofs.lemmas.List.{map-append, append-nil}
use Rattle.std.proofs.lemmas.Grind.{flat_map-append}
use Rattle.annex_resolve.proofs.ResolvedTermsAndSums.{take_next}

pub map_next : {A B : Type 0} (f : A → B) (xs : List A) (i : ℕ) (x : A) → i < length xs → x ≡ get_or xs i x
    → map f (take (i + 1) xs) ≡ map f (take i xs) ++ f x ∷ []
map_next f xs i x within is = ap (map f) (take_next xs i x within is) ∙ map-append f (take i xs) (x ∷ [])

pub map_map_next : {A B C : Type 0} (g : B → C) (f : A → B) (xs : List A) (i : ℕ) (x : A) → i < length xs
    → x ≡ get_or xs i x → map g (map f (take (i + 1) xs)) ≡ map g (map f (take i xs)) ++ g (f x) ∷ []
map_map_next g f xs i x within is =
    ap (map g) (map_next f xs i x within is) ∙ map-append g (map f (take i xs)) (f x ∷ [])

pub flat_map_next : {A B C : Type 0} (g : B → List C) (f : A → B) (xs : List A) (i : ℕ) (x : A) → i < length xs
    → x ≡ get_or xs i x → flat_map g (map f (take (i + 1) xs)) ≡ flat_map g (map f (take i xs)) ++ g (f x)
flat_map_next g f xs i x within is =
    ap (flat_map g) (map_next f xs i x within is) ∙ flat_map-append g (map f (take i xs)) (f x ∷ [])
    ∙ ap (λ l. flat_map g (map f (take i xs)) ++ l) (append-nil (g (f x)))
