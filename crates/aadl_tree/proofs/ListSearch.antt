-- A search through a list: one more element that does not match.
use Rattle.std.proofs.Common.{◌≡◌, ℕ, ◌+◌, ◌<◌, Bool, cond, false, refl, ◌∙◌, List, length, get_or, drop, Some, add-one}
use Rattle.std.proofs.Common.{drop-cons}
use Rattle.std.specs.List.{find}

pub find_step : {A : Type 0} (p : A → Bool) (xs : List A) (i : ℕ) (d : A) → i < length xs
    → find p (drop i xs) ≡ cond (p (get_or xs i d)) (Some (get_or xs i d)) (find p (drop (i + 1) xs))
find_step p xs i d h = rw (add-one, drop-cons xs i d) refl

-- past an element that does not match
pub find_past : {A : Type 0} (p : A → Bool) (xs : List A) (i : ℕ) (d : A) → i < length xs → p (get_or xs i d) ≡ false
    → find p (drop i xs) ≡ find p (drop (i + 1) xs)
find_past p xs i d h wrong = find_step p xs i d h ∙ rw wrong refl
