-- A list from which an item is taken, or that gets one more, as the items between its place and an end move by one
-- place.
use Rattle.std.proofs.Common.{◌≡◌, ℕ, zero, suc, ◌+◌, ◌<◌, ◌≤◌, List, [], ◌∷◌, ◌++◌, length, set, slice_get, insert}
use Rattle.std.proofs.Common.{remove, Some, refl, sym, ap, ◌∙◌, arith}
use Rattle.std.proofs.lemmas.Option.{same_Some, slice_get-get_or}
use Rattle.std.proofs.lemmas.List.Edits.{length-insert, get_or-insert_at}
use Rattle.circular_buffer.specs.Buffer.{Buffer, buffer}

module _ {X : Type 0} where
  exchange_on : (xs : List X) (n : ℕ) (y : X) → suc n < length xs → slice_get xs n ≡ Some y
      → set (remove xs n) n y ≡ remove xs (suc n)
  exchange_on [] n y within at = absurd (omega arith)
  exchange_on (x ∷ []) n y within at = absurd (omega arith)
  exchange_on (x ∷ z ∷ xs) zero y within at = ap (λ w. w ∷ xs) (sym (same_Some _ _ at))
  exchange_on (x ∷ z ∷ xs) (suc n) y within at = ap (λ zs. x ∷ zs) (exchange_on (z ∷ xs) n y (omega arith) at)

  next_on : (xs : List X) (n : ℕ) → n < length xs → slice_get (remove xs n) n ≡ slice_get xs (suc n)
  next_on [] n within = absurd (omega arith)
  next_on (x ∷ xs) zero within = refl
  next_on (x ∷ xs) (suc n) within = next_on xs n (omega arith)

  exchange_back : (xs : List X) (n : ℕ) (y : X) → suc n < length xs → slice_get xs (suc n) ≡ Some y
      → set (remove xs (suc n)) n y ≡ remove xs n
  exchange_back [] n y within at = absurd (omega arith)
  exchange_back (x ∷ []) n y within at = absurd (omega arith)
  exchange_back (x ∷ z ∷ xs) zero y within at = ap (λ w. w ∷ xs) (sym (same_Some _ _ at))
  exchange_back (x ∷ z ∷ xs) (suc n) y within at = ap (λ zs. x ∷ zs) (exchange_back (z ∷ xs) n y (omega arith) at)

  next_back : (xs : List X) (n : ℕ) → suc n < length xs → slice_get (remove xs (suc n)) n ≡ slice_get xs n
  next_back [] n within = absurd (omega arith)
  next_back (x ∷ []) n within = absurd (omega arith)
  next_back (x ∷ z ∷ xs) zero within = refl
  next_back (x ∷ z ∷ xs) (suc n) within = next_back (z ∷ xs) n (omega arith)

  -- an exchange at a place, while the item there is held and the others are in the ring: now the next is held, or the
  -- one before
  module _ (xs : List X) (room n : ℕ) (held next : X) (ring new : Buffer X) (within : suc n < length xs)
      (put : new ≡ buffer (set ring.items n held) ring.capacity) (out : slice_get ring.items n ≡ Some next) where
    pub moved_on : ring ≡ buffer (remove xs n) room → slice_get xs n ≡ Some held
        → (new ≡ buffer (remove xs (suc n)) room) × (slice_get xs (suc n) ≡ Some next)
    moved_on stands here = (
      (rw stands at put) ∙ ap (λ zs. buffer zs room) (exchange_on xs n held within here),
      sym (next_on xs n (omega arith)) ∙ (rw stands at out),
    )

    pub moved_back : ring ≡ buffer (remove xs (suc n)) room → slice_get xs (suc n) ≡ Some held
        → (new ≡ buffer (remove xs n) room) × (slice_get xs n ≡ Some next)
    moved_back stands here = (
      (rw stands at put) ∙ ap (λ zs. buffer zs room) (exchange_back xs n held within here),
      sym (next_back xs n within) ∙ (rw stands at out),
    )

  -- ---- one item more
  pub without_new : (xs : List X) (n : ℕ) (y : X) → n ≤ length xs → remove (insert xs n y) n ≡ xs
  without_new [] zero y within = refl
  without_new [] (suc n) y within = absurd (omega arith)
  without_new (x ∷ xs) zero y within = refl
  without_new (x ∷ xs) (suc n) y within = ap (λ zs. x ∷ zs) (without_new xs n y (omega arith))

  pub new_at : (xs : List X) (n : ℕ) (y : X) → n ≤ length xs → slice_get (insert xs n y) n ≡ Some y
  new_at xs n y within =
      slice_get-get_or (insert xs n y) n y (omega (arith, length-insert xs n y within))
      ∙ ap Some (get_or-insert_at xs n y y within)

  -- the first item is put ahead of the others, or the last behind them
  first_ahead : (xs : List X) (y : X) → slice_get xs 0 ≡ Some y → y ∷ remove xs 0 ≡ xs
  first_ahead [] y at = absurd (cc)
  first_ahead (x ∷ xs) y at = ap (λ z. z ∷ xs) (sym (same_Some _ _ at))

  last_behind : (xs : List X) (n : ℕ) (y : X) → length xs ≡ n + 1 → slice_get xs n ≡ Some y → remove xs n ++ y ∷ [] ≡ xs
  last_behind [] n y long at = absurd (omega arith)
  last_behind (x ∷ []) zero y long at = ap (λ z. z ∷ []) (sym (same_Some _ _ at))
  last_behind (x ∷ z ∷ xs) zero y long at = absurd (omega arith)
  last_behind (x ∷ xs) (suc n) y long at = ap (λ zs. x ∷ zs) (last_behind xs n y (omega arith) at)

  pub whole_by_front : (xs : List X) (room : ℕ) (held : X) (ring new : Buffer X)
      → new ≡ buffer (held ∷ ring.items) ring.capacity
      → ring ≡ buffer (remove xs 0) room → slice_get xs 0 ≡ Some held → new ≡ buffer xs room
  whole_by_front xs room held ring new put stands here =
      (rw stands at put) ∙ ap (λ zs. buffer zs room) (first_ahead xs held here)

  pub whole_by_back : (xs : List X) (room n : ℕ) (held : X) (ring new : Buffer X) → length xs ≡ n + 1
      → new ≡ buffer (ring.items ++ held ∷ []) ring.capacity
      → ring ≡ buffer (remove xs n) room → slice_get xs n ≡ Some held → new ≡ buffer xs room
  whole_by_back xs room n held ring new long put stands here =
      (rw stands at put) ∙ ap (λ zs. buffer zs room) (last_behind xs n held long here)
