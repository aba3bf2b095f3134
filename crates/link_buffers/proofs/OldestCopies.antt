-- For `Flight`: the items of a list that pass a test, as an item is added, or the first that passes goes.
use Rattle.std.proofs.Common.{◌≡◌, ℕ, suc, ◌+◌, ◌<◌, ◌≤◌, nat_eq, Bool, true, false, not, cond, List, [], ◌∷◌, ◌++◌}
use Rattle.std.proofs.Common.{length, take, drop, filter, find, Some, None, slice_get}
use Rattle.std.proofs.Common.{refl, sym, ap, ◌∙◌, subst, arith, eqb-true}
use Rattle.std.specs.List.{position_or_len, before_first, after_first}
use Rattle.std.proofs.lemmas.Bool.Decides.{nat_tests}
use Rattle.std.proofs.lemmas.List.{append-nil}
use Rattle.std.proofs.lemmas.List.Elements.{filter-append}
use Rattle.std.proofs.lemmas.List.Sums.{length-filter, count_by-le-length}
use Rattle.std.proofs.lemmas.Option.{same_Some}
use Rattle.pals_model.specs.declared.flight_copy.FlightCopy.{FlightCopy}
use Rattle.pals_model.specs.Flights.{is_of, oldest, without_oldest}
use Rattle.link_buffers.specs.declared.copies_by_round.RoundCopies.{RoundCopies}
use Rattle.link_buffers.specs.proof.CopiesByRound.{copies_of, AreByRound, HaveSameCopies, HaveSameOthers}

module _ {X : Type 0} (p : X → Bool) where
  pub shorter : (xs : List X) → length (filter p xs) ≤ length xs
  shorter xs = omega (arith, length-filter p xs, count_by-le-length p xs)

  -- a list without its first item that passes
  abbrev without : List X → List X
  without xs = before_first p xs ++ after_first p xs

  without_cons : (x : X) (xs : List X) → without (x ∷ xs) ≡ cond (p x) xs (x ∷ without xs)
  without_cons x xs =
      let n = position_or_len p xs in
      elim (p x) as
      (λ b. take (cond (not b) (1 + n) 0) (x ∷ xs) ++ drop (cond (not b) (1 + n) 0 + 1) (x ∷ xs)
      ≡ cond b xs (x ∷ without xs)) [
        | true ↦ refl
        | false ↦
            ap (λ m. take m (x ∷ xs) ++ drop (m + 1) (x ∷ xs)) (let here : 1 + n ≡ suc n = omega arith in here)
            ∙ ap (λ m. x ∷ (take n xs ++ drop m (x ∷ xs))) (let next : suc n + 1 ≡ suc (n + 1) = omega arith in next)
      ]

  filter_without : (xs : List X) → filter p (without xs) ≡ drop 1 (filter p xs)
  filter_without [] = refl
  filter_without (x ∷ xs) =
      ap (filter p) (without_cons x xs)
      ∙ (elim (p x) as (λ b. p x ≡ b → filter p (cond b xs (x ∷ without xs))
      ≡ drop 1 (cond b (x ∷ filter p xs) (filter p xs))) [
        | true ↦ λ here. refl
        | false ↦ λ other. rw other (filter_without xs)
      ]) refl

  filter_without_other : (q : X → Bool) → ((x : X) → p x ≡ true → q x ≡ false) → (xs : List X)
      → filter q (without xs) ≡ filter q xs
  filter_without_other q apart [] = refl
  filter_without_other q apart (x ∷ xs) =
      ap (filter q) (without_cons x xs)
      ∙ (elim (p x) as (λ b. p x ≡ b → filter q (cond b xs (x ∷ without xs)) ≡ filter q (x ∷ xs)) [
        | true ↦ λ here. rw (apart x here) refl
        | false ↦ λ other. ap (λ ys. cond (q x) (x ∷ ys) ys) (filter_without_other q apart xs)
      ]) refl

  pub first_kept : (xs : List X) → find p xs ≡ slice_get (filter p xs) 0
  first_kept [] = refl
  first_kept (x ∷ xs) =
      elim (p x) as (λ b. cond b (Some x) (find p xs) ≡ slice_get (cond b (x ∷ filter p xs) (filter p xs)) 0) [
        | true ↦ refl
        | false ↦ first_kept xs
      ]

  pub length_without : (xs : List X) → 0 < length (filter p xs) → length (without xs) + 1 ≡ length xs
  length_without [] some = absurd (omega arith)
  length_without (x ∷ xs) some =
      ap (λ ys. length ys + 1) (without_cons x xs)
      ∙ (elim (p x) as (λ b. 0 < length (cond b (x ∷ filter p xs) (filter p xs))
      → length (cond b xs (x ∷ without xs)) + 1 ≡ length (x ∷ xs)) [
        | true ↦ λ here. omega arith
        | false ↦ λ here. let rest = length_without xs here in omega (arith, rest)
      ]) some

  pub without_nothing : (xs : List X) → filter p xs ≡ [] → without xs ≡ xs
  without_nothing [] none = refl
  without_nothing (x ∷ xs) none =
      without_cons x xs
      ∙ (elim (p x) as (λ b. cond b (x ∷ filter p xs) (filter p xs) ≡ [] → cond b xs (x ∷ without xs) ≡ x ∷ xs) [
        | true ↦ λ some. absurd (cc)
        | false ↦ λ rest. ap (λ ys. x ∷ ys) (without_nothing xs rest)
      ]) none

  pub passes_first : (xs : List X) (x : X) → find p xs ≡ Some x → p x ≡ true
  passes_first [] x found = absurd (cc)
  passes_first (y ∷ xs) x found =
      (elim (p y) as (λ b. p y ≡ b → cond b (Some y) (find p xs) ≡ Some x → p x ≡ true) [
        | true ↦ λ here same. subst (λ z. p z ≡ true) (same_Some y x same) here
        | false ↦ λ other rest. passes_first xs x rest
      ]) refl found

front_of : {X : Type 0} (xs : List X) → 0 < length xs → slice_get xs 0 ≡ slice_get (take 1 xs) 0
front_of [] some = absurd (omega arith)
front_of (x ∷ xs) some = refl

-- ---- the copies of each round
other_round : (round other : ℕ) → nat_eq round other ≡ false → (copy : FlightCopy) → is_of round copy ≡ true
    → is_of other copy ≡ false
other_round round other apart copy here =
    subst (λ r. nat_eq r other ≡ false) (sym (eqb-true copy.round round here)) apart

module _ (old new : List RoundCopies) (copies : List FlightCopy) (by_round : AreByRound old copies) where
  pub by_round-same : HaveSameCopies old new → AreByRound new copies
  by_round-same same round = same round ∙ by_round round

  pub by_round-added : (copy : FlightCopy) → copies_of copy.round new ≡ copies_of copy.round old ++ copy ∷ []
      → HaveSameOthers copy.round old new → AreByRound new (copies ++ copy ∷ [])
  by_round-added copy added others round =
      (elim (nat_eq copy.round round) as (λ b. nat_eq copy.round round ≡ b
      → copies_of round new ≡ filter (is_of round) (copies ++ copy ∷ [])) [
        | true ↦ λ here.
            subst (λ r. copies_of r new ≡ filter (is_of r) (copies ++ copy ∷ [])) (eqb-true copy.round round here)
            (added ∙ ap (λ ys. ys ++ copy ∷ []) (by_round copy.round)
            ∙ ap (λ b. filter (is_of copy.round) copies ++ cond b (copy ∷ []) [])
            (let same : true ≡ nat_eq copy.round copy.round = grind (arith, nat_tests) in same)
            ∙ sym (filter-append (is_of copy.round) copies (copy ∷ [])))
        | false ↦ λ other.
            others round other ∙ by_round round
            ∙ sym (append-nil (filter (is_of round) copies))
            ∙ ap (λ b. filter (is_of round) copies ++ cond b (copy ∷ []) []) (sym other)
            ∙ sym (filter-append (is_of round) copies (copy ∷ []))
      ]) refl

  pub by_round-taken : (round : ℕ) → copies_of round new ≡ drop 1 (copies_of round old)
      → HaveSameOthers round old new → AreByRound new (without_oldest round copies)
  by_round-taken round left others other =
      (elim (nat_eq round other) as (λ b. nat_eq round other ≡ b
      → copies_of other new ≡ filter (is_of other) (without_oldest round copies)) [
        | true ↦ λ here.
            subst (λ r. copies_of r new ≡ filter (is_of r) (without_oldest round copies)) (eqb-true round other here)
            (left ∙ ap (drop 1) (by_round round) ∙ sym (filter_without (is_of round) copies))
        | false ↦ λ apart.
            others other apart ∙ by_round other
            ∙ sym (filter_without_other (is_of round) (is_of other) (other_round round other apart) copies)
      ]) refl

module _ (rounds : List RoundCopies) (copies : List FlightCopy) (by_round : AreByRound rounds copies) (round : ℕ) where
  pub oldest_is : oldest round copies ≡ slice_get (copies_of round rounds) 0
  oldest_is =
      first_kept (is_of round) copies ∙ ap (λ (ys : List FlightCopy). slice_get ys 0) (sym (by_round round))

  pub few_copies : length (copies_of round rounds) ≤ length copies
  few_copies =
      subst (λ (ys : List FlightCopy). length ys ≤ length copies) (sym (by_round round)) (shorter (is_of round) copies)

  pub oldest_none : copies_of round rounds ≡ [] → (oldest round copies ≡ None) × (without_oldest round copies ≡ copies)
  oldest_none none = (
    oldest_is ∙ ap (λ (ys : List FlightCopy). slice_get ys 0) none,
    without_nothing (is_of round) copies (sym (by_round round) ∙ none),
  )

  -- the oldest copy stands alone in its node
  module _ (node : List FlightCopy) (copy : FlightCopy) (some : 0 < length (copies_of round rounds))
      (first : node ≡ take 1 (copies_of round rounds)) (only : node ≡ copy ∷ []) where
    pub oldest_some : oldest round copies ≡ Some copy
    oldest_some =
        oldest_is ∙ front_of (copies_of round rounds) some
        ∙ ap (λ (ys : List FlightCopy). slice_get ys 0) (sym first ∙ only)

    pub round_is : copy.round ≡ round
    round_is = eqb-true copy.round round (passes_first (is_of round) copies copy oldest_some)

    pub length_left : length (without_oldest round copies) + 1 ≡ length copies
    length_left =
        length_without (is_of round) copies (subst (λ (ys : List FlightCopy). 0 < length ys) (by_round round) some)
