-- A list of which one element is taken out, another is changed, and the first is put back.
use Rattle.std.proofs.Common.{◌≡◌, ◌≢◌, ◌∙◌, ◌⊎◌, inl, inr, ℕ, zero, suc, ◌<◌, List, [], ◌∷◌, length, map, set, Some}
use Rattle.std.proofs.Common.{slice_get, slice_index_or, refl, sym, ap, arith}
use Rattle.std.specs.Option.{option_map}
use Rattle.std.proofs.lemmas.List.{length-set, length-map}
use Rattle.std.proofs.lemmas.Option.{slice_get-map, slice_get_read}
use Rattle.std.proofs.lemmas.Bool.{cases_order}
use Rattle.list_lemmas.proofs.ListOperations.{same_from_places}
use Rattle.sync_product.proofs.ComponentLists.{slice_get-set_same}
use Rattle.plant_fuse.specs.proof.TakenElements.{TakenFrom}

pub get_set_other : {X : Type 0} (xs : List X) (i k : ℕ) (y : X) → k ≢ i → slice_get (set xs i y) k ≡ slice_get xs k
get_set_other [] i k y other = refl
get_set_other (x ∷ xs) zero zero y other = absurd (other refl)
get_set_other (x ∷ xs) zero (suc k) y other = refl
get_set_other (x ∷ xs) (suc i) zero y other = refl
get_set_other (x ∷ xs) (suc i) (suc k) y other = get_set_other xs i k y (λ same. other (ap suc same))

-- ---- one that is taken out
-- the others stay
pub kept_get : {X : Type 0} (old new : List X) (i k : ℕ) (x y : X) → TakenFrom old new i x → k ≢ i → k < length old
    → y ≡ slice_index_or new k y → slice_get old k ≡ Some y
kept_get old new i k x y taken other within is =
    let size : length new ≡ length old = ap length taken.now_is ∙ length-set old i taken.other in
    let inside : k < length new = omega (arith, within, size) in
    sym (get_set_other old i k taken.other other)
    ∙ ap (λ zs. slice_get zs k) (sym taken.now_is)
    ∙ slice_get_read new (length new) k y refl inside is

pub kept_length : {X : Type 0} (old new : List X) (i : ℕ) (x : X) → TakenFrom old new i x → length new ≡ length old
kept_length old new i x taken = ap length taken.now_is ∙ length-set old i taken.other

-- ---- and put back
module _ {X : Type 0} (old new last : List X) (i j : ℕ) (was x y : X) (taken : TakenFrom old new i was)
    (last_is : last ≡ set (set new j y) i x) (apart : i ≢ j) (in_i : i < length old) (in_j : j < length old) where
  pub length_back : length last ≡ length old
  length_back = ap length last_is ∙ length-set (set new j y) i x ∙ length-set new j y ∙ kept_length old new i was taken

  pub back_first : slice_get last i ≡ Some x
  back_first =
      let size = length-set new j y ∙ kept_length old new i was taken in
      ap (λ zs. slice_get zs i) last_is ∙ slice_get-set_same (set new j y) i x (omega (arith, in_i, size))

  pub back_second : slice_get last j ≡ Some y
  back_second =
      let size = kept_length old new i was taken in
      ap (λ zs. slice_get zs j) last_is
      ∙ get_set_other (set new j y) i j x (λ same. apart (sym same))
      ∙ slice_get-set_same new j y (omega (arith, in_j, size))

  pub back_other : (k : ℕ) → k ≢ i → k ≢ j → slice_get last k ≡ slice_get old k
  back_other k not_i not_j =
      ap (λ zs. slice_get zs k) last_is
      ∙ get_set_other (set new j y) i k x not_i
      ∙ get_set_other new j k y not_j
      ∙ ap (λ zs. slice_get zs k) taken.now_is
      ∙ get_set_other old i k taken.other not_i

  -- a property of the elements stays if it is the same for both
  module _ {S : Type 0} (size : X → S) (second : X) (at_second : slice_get old j ≡ Some second)
      (size_x : size x ≡ size was) (size_y : size y ≡ size second) where
    seen_at : (k : ℕ) → slice_get (map size last) k ≡ slice_get (map size old) k
    seen_at k =
        slice_get-map size last k
        ∙ elim (cases_order k i) [
          | inl at_i ↦
              ap (λ n. option_map size (slice_get last n)) at_i
              ∙ ap (option_map size) back_first
              ∙ ap Some size_x
              ∙ sym (ap (option_map size) taken.was)
              ∙ sym (ap (λ n. option_map size (slice_get old n)) at_i)
          | inr not_i ↦ elim (cases_order k j) [
            | inl at_j ↦
                ap (λ n. option_map size (slice_get last n)) at_j
                ∙ ap (option_map size) back_second
                ∙ ap Some size_y
                ∙ sym (ap (option_map size) at_second)
                ∙ sym (ap (λ n. option_map size (slice_get old n)) at_j)
            | inr not_j ↦ ap (option_map size) (back_other k (differ k i not_i) (differ k j not_j))
          ]
        ]
        ∙ sym (slice_get-map size old k)
      where
        differ : (a b : ℕ) → (a < b) ⊎ (b < a) → a ≢ b
        differ a b (inl less) same = omega (arith, less, same)
        differ a b (inr more) same = omega (arith, more, same)

    pub seen_back : map size last ≡ map size old
    seen_back =
        let many = length-map last size in
        let all = length-map old size in
        same_from_places (map size last) (map size old) (many ∙ length_back ∙ sym all) (λ k within. seen_at k)
