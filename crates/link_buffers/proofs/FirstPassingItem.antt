-- For `flight_oldest` and `flight_take`: the first item of a list that passes a test.
use Rattle.std.proofs.Common.{◌≡◌, ℕ, ◌<◌, ◌≤◌, Bool, true, false, List, [], ◌∷◌, ◌++◌, length, get_or, Some, None}
use Rattle.std.proofs.Common.{is_some, slice_get, find, remove, refl, ap, ◌∙◌, arith, add-one}
use Rattle.std.specs.List.{position, position_or_len, before_first, after_first}
use Rattle.std.proofs.lemmas.Grind.{common_steps}
use Rattle.std.proofs.lemmas.Option.{slice_get_past, slice_get-get_or}
use Rattle.std.proofs.lemmas.List.Folds.{find_at}
use Rattle.std.proofs.lemmas.List.Sums.{position_or_len_is}

module _ {X : Type 0} (p : X → Bool) where
  first_place : (xs : List X) (n : ℕ) → position p xs ≡ Some n → (position_or_len p xs ≡ n) × (n < length xs)
  first_place xs n at = grind (arith, common_steps)

  no_place : (xs : List X) → position p xs ≡ None → length xs ≤ position_or_len p xs
  no_place xs at = grind (arith, common_steps)

  pub place_within : (xs : List X) (n : ℕ) → position p xs ≡ Some n → n < length xs
  place_within xs n at = (first_place xs n at).1

  pub stands_there : (xs : List X) (n : ℕ) → position p xs ≡ Some n → is_some (slice_get xs n) ≡ true
  stands_there [] n at = absurd (omega (arith, place_within [] n at))
  stands_there (x ∷ xs) n at = ap is_some (slice_get-get_or (x ∷ xs) n x (place_within (x ∷ xs) n at))

  pub find_some : (xs : List X) (n : ℕ) → position p xs ≡ Some n → find p xs ≡ slice_get xs n
  find_some xs n at = find_at p xs ∙ ap (slice_get xs) (first_place xs n at).0

  pub find_none : (xs : List X) → position p xs ≡ None → find p xs ≡ None
  find_none xs at = find_at p xs ∙ slice_get_past xs (position_or_len p xs) (no_place xs at)

  pub without_some : (xs : List X) (n : ℕ) → position p xs ≡ Some n
      → before_first p xs ++ after_first p xs ≡ remove xs n
  without_some xs n at = rw ((first_place xs n at).0, add-one) refl

  pub without_none : (xs : List X) → position p xs ≡ None → before_first p xs ++ after_first p xs ≡ xs
  without_none xs at = let past : length xs ≤ position_or_len p xs = no_place xs at in grind (arith, common_steps)

  -- without the first that passes, where its place is known
  pub without_at : (xs : List X) (n : ℕ) (d : X) → n < length xs → ((k : ℕ) → k < n → p (get_or xs k d) ≡ false)
      → p (get_or xs n d) ≡ true → before_first p xs ++ after_first p xs ≡ remove xs n
  without_at xs n d within before at = rw (position_or_len_is p xs n d (omega arith) before (λ _. at), add-one) refl

  -- if none passes
  pub without_any : (xs : List X) (d : X) → ((k : ℕ) → k < length xs → p (get_or xs k d) ≡ false)
      → before_first p xs ++ after_first p xs ≡ xs
  without_any xs d none =
      let past : position_or_len p xs ≡ length xs =
      position_or_len_is p xs (length xs) d (omega arith) none (λ lt. absurd (omega arith)) in
      grind (arith, common_steps)
