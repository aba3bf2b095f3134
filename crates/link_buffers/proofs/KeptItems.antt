-- For `remove_empty`: a list that turns once, and keeps the items that pass a test.
use Rattle.std.proofs.Common.{◌≡◌, ℕ, zero, suc, ◌+◌, ◌<◌, Bool, List, [], ◌∷◌, ◌++◌, length, get_or}
use Rattle.std.proofs.Common.{take, drop, filter, refl, sym, ap, ◌∙◌, arith}
use Rattle.std.proofs.lemmas.List.{append_assoc, take_all, drop_all}
use Rattle.std.proofs.lemmas.List.Elements.{filter_more}

module _ {X : Type 0} (p : X → Bool) where
  -- a list of which the first `n` items have turned
  abbrev pub turned : List X → ℕ → List X
  turned xs n = drop n xs ++ filter p (take n xs)

  drop_front : (xs ys : List X) (n : ℕ) → n < length xs → drop 1 (drop n xs ++ ys) ≡ drop (n + 1) xs ++ ys
  drop_front [] ys n within = absurd (omega arith)
  drop_front (x ∷ xs) ys zero within = refl
  drop_front (x ∷ xs) ys (suc n) within =
      drop_front xs ys n (omega arith)
      ∙ ap (λ m. drop m (x ∷ xs) ++ ys) (let more : suc (n + 1) ≡ suc n + 1 = omega arith in more)

  take_front : (xs ys : List X) (n : ℕ) (d : X) → n < length xs → take 1 (drop n xs ++ ys) ≡ get_or xs n d ∷ []
  take_front [] ys n d within = absurd (omega arith)
  take_front (x ∷ xs) ys zero d within = refl
  take_front (x ∷ xs) ys (suc n) d within = take_front xs ys n d (omega arith)

  pub turned_more : (xs : List X) (n : ℕ) → n < length xs
      → drop 1 (turned xs n) ++ filter p (take 1 (turned xs n)) ≡ turned xs (n + 1)
  turned_more [] n within = absurd (omega arith)
  turned_more (x ∷ rest) n within =
      let xs = x ∷ rest in
      let kept = filter p (take n xs) in
      let y = get_or xs n x in
      rw (drop_front xs kept n within, take_front xs kept n x within)
      (append_assoc (drop (n + 1) xs) kept (filter p (y ∷ []))
      ∙ ap (λ ys. drop (n + 1) xs ++ ys) (sym (filter_more p xs n x within)))

  pub turned_all : (xs : List X) → turned xs (length xs) ≡ filter p xs
  turned_all xs = rw (drop_all (length xs) xs (omega arith), take_all (length xs) xs (omega arith)) refl
