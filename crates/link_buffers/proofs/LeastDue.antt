-- For `flight_due`: the first round with a copy that is due is the smallest.
use Rattle.std.proofs.Common.{◌≡◌, ℕ, ◌<◌, ◌≤◌, nat_eq, Bool, true, false, ◌||◌, cond, List, [], ◌∷◌}
use Rattle.std.proofs.Common.{get_or, map, filter, find, Some, None, option_map, ⊎_elim, refl, sym}
use Rattle.std.proofs.Common.{ap, ◌∙◌, subst, arith, eqb-true}
use Rattle.std.specs.List.{list_any}
use Rattle.std.proofs.lemmas.Bool.{cases_lt}
use Rattle.std.proofs.lemmas.Bool.Decides.{nat_tests}
use Rattle.std.proofs.lemmas.List.Folds.{Any-from_list_any, list_any_at}
use Rattle.std.proofs.lemmas.Option.{same_Some}
use Rattle.pals_model.specs.declared.flight_copy.FlightCopy.{FlightCopy}
use Rattle.pals_model.specs.Flights.{is_of}
use Rattle.link_buffers.specs.declared.copies_by_round.RoundCopies.{RoundCopies}
use Rattle.link_buffers.specs.proof.Flights.{is_due, due_rounds}
use Rattle.link_buffers.specs.proof.FirstAndLeastItems.{least}
use Rattle.link_buffers.specs.proof.CopiesByRound.{copies_of, is_for, AreRising, AreByRound, has_due}
use Rattle.link_buffers.proofs.BufferLaws.{least_some, least_none}
use Rattle.link_buffers.proofs.CopiesByRound.{copies-other, copies-here, copies_nowhere, rising_rest, rising_head}

-- a number is in a list
abbrev is_in : ℕ → List ℕ → Bool
is_in n ns = list_any (λ m. nat_eq m n) ns

-- ---- the smallest number
least_from : (ns : List ℕ) (n : ℕ) → is_in n ns ≡ true → ((m : ℕ) → is_in m ns ≡ true → n ≤ m) → least ns ≡ Some n
least_from ns n has below =
    (elim (least ns) as (λ o. least ns ≡ o → o ≡ Some n) [
      | None ↦ λ none. let nothing : is_in n [] ≡ true = subst (λ ms. is_in n ms ≡ true) (least_none ns none) has in
          absurd (cc)
      | Some m ↦ λ some.
          let is = least_some ns m some in
          let in_list : is_in m ns ≡ true =
          list_any_at (λ k. nat_eq k m) ns is.0.0 m is.0.1 (let at = is.0.2 in grind (arith, nat_tests)) in
          let low : n ≤ m = below m in_list in
          let place = Any-from_list_any (λ k. nat_eq k n) ns has in
          let here : m ≤ get_or ns place.0 place.1 = is.1 place.0 place.1 place.2 in
          let stands = place.3 in
          let same : place.1 ≡ n = eqb-true place.1 n place.4 in
          ap Some (let both : m ≡ n = omega (arith, here, stands, same, low) in both)
    ]) refl

none_from : (ns : List ℕ) → ((m : ℕ) → is_in m ns ≡ false) → least ns ≡ None
none_from [] none = refl
none_from (n ∷ ns) none = let here = none n in absurd (grind (arith, nat_tests))

-- ---- a round is due if one of its copies is
is_in-due_rounds : (reading round : ℕ) (copies : List FlightCopy)
    → is_in round (due_rounds reading copies) ≡ list_any (is_due reading) (filter (is_of round) copies)
is_in-due_rounds reading round [] = refl
is_in-due_rounds reading round (c ∷ copies) =
    let rest = is_in-due_rounds reading round copies in
    let dues = filter (is_due reading) copies in
    let ours = filter (is_of round) copies in
    (elim (is_due reading c) as (λ due. is_due reading c ≡ due
    → is_in round (map (λ (x : FlightCopy). x.round) (cond due (c ∷ dues) dues))
    ≡ list_any (is_due reading) (cond (is_of round c) (c ∷ ours) ours)) [
      | true ↦ λ due. (elim (is_of round c) as (λ of. (of || is_in round (due_rounds reading copies))
          ≡ list_any (is_due reading) (cond of (c ∷ ours) ours)) [
            | true ↦ sym (ap (λ b. b || list_any (is_due reading) ours) due)
            | false ↦ rest
          ])
      | false ↦ λ other. (elim (is_of round c) as (λ of. is_in round (due_rounds reading copies)
          ≡ list_any (is_due reading) (cond of (c ∷ ours) ours)) [
            | true ↦ rest ∙ sym (ap (λ b. b || list_any (is_due reading) ours) other)
            | false ↦ rest
          ])
    ]) refl

-- ---- the first round that is due
module _ (reading : ℕ) where
  -- a round of the table is due
  abbrev due_in : ℕ → List RoundCopies → Bool
  due_in round rounds = list_any (is_due reading) (copies_of round rounds)

  later_than : (x : RoundCopies) (xs : List RoundCopies) → AreRising (x ∷ xs) → (round : ℕ)
      → due_in round xs ≡ true → x.round < round
  later_than x xs rising round due =
      ⊎_elim
      (λ (lt : x.round < round). lt)
      (λ (ge : round ≤ x.round).
      let none : copies_of round xs ≡ [] = copies_nowhere round xs
      (λ k d lt. let later = rising_head x xs rising k d lt in grind (arith, nat_tests)) in
      let nothing : false ≡ true = ap (list_any (is_due reading)) (sym none) ∙ due in absurd (cc))
      (cases_lt x.round round)

  abbrev IsFirstDue : List RoundCopies → ℕ → Type 0
  IsFirstDue rounds first = (due_in first rounds ≡ true) × ((round : ℕ) → due_in round rounds ≡ true → first ≤ round)

  first_some : (rounds : List RoundCopies) (entry : RoundCopies) → AreRising rounds
      → find (has_due reading) rounds ≡ Some entry → IsFirstDue rounds entry.round
  first_some [] entry rising found = absurd (cc)
  first_some (x ∷ xs) entry rising found =
      (elim (has_due reading x) as (λ b. has_due reading x ≡ b
      → cond b (Some x) (find (has_due reading) xs) ≡ Some entry
      → IsFirstDue (x ∷ xs) entry.round) [
        | true ↦ λ due same. subst (λ (e : RoundCopies). IsFirstDue (x ∷ xs) e.round) (same_Some x entry same) (
          ap (list_any (is_due reading)) (copies-here x.round x xs (grind (arith, nat_tests))) ∙ due,
          λ round has. (elim (is_for round x) as (λ b. is_for round x ≡ b → x.round ≤ round) [
            | true ↦ λ here. omega (arith, eqb-true x.round round here)
            | false ↦ λ other. omega (
              arith,
              later_than x xs rising round
                  (ap (list_any (is_due reading)) (sym (copies-other round x xs other)) ∙ has),
            )
          ]) refl,
        )
        | false ↦ λ idle rest.
            let first = first_some xs entry (rising_rest x xs rising) rest in
            let later : x.round < entry.round = later_than x xs rising entry.round first.0 in (
              ap (list_any (is_due reading)) (copies-other entry.round x xs (grind (arith, nat_tests))) ∙ first.0,
              λ round has. (elim (is_for round x) as (λ b. is_for round x ≡ b → entry.round ≤ round) [
                | true ↦ λ here.
                    let nothing : false ≡ true = sym idle ∙ ap (list_any (is_due reading))
                    (sym (copies-here round x xs here)) ∙ has in
                    absurd (cc)
                | false ↦ λ other.
                    first.1 round (ap (list_any (is_due reading)) (sym (copies-other round x xs other)) ∙ has)
              ]) refl,
            )
      ]) refl found

  first_none : (rounds : List RoundCopies) → find (has_due reading) rounds ≡ None → (round : ℕ)
      → due_in round rounds ≡ false
  first_none [] none round = refl
  first_none (x ∷ xs) none round =
      (elim (has_due reading x) as (λ b. has_due reading x ≡ b → cond b (Some x) (find (has_due reading) xs) ≡ None
      → due_in round (x ∷ xs) ≡ false) [
        | true ↦ λ due some. absurd (cc)
        | false ↦ λ idle rest. (elim (is_for round x) as (λ b. is_for round x ≡ b → due_in round (x ∷ xs) ≡ false) [
          | true ↦ λ here. ap (list_any (is_due reading)) (copies-here round x xs here) ∙ idle
          | false ↦ λ other. ap (list_any (is_due reading)) (copies-other round x xs other) ∙ first_none xs rest round
        ]) refl
      ]) refl none

  pub first_is_least : (rounds : List RoundCopies) (copies : List FlightCopy) → AreRising rounds
      → AreByRound rounds copies
      → option_map (λ (entry : RoundCopies). entry.round) (find (has_due reading) rounds)
      ≡ least (due_rounds reading copies)
  first_is_least rounds copies rising by_round =
      let same : (round : ℕ) → is_in round (due_rounds reading copies) ≡ due_in round rounds =
      λ round. is_in-due_rounds reading round copies ∙ ap (list_any (is_due reading)) (sym (by_round round)) in
      (elim (find (has_due reading) rounds) as (λ o. find (has_due reading) rounds ≡ o
      → option_map (λ (entry : RoundCopies). entry.round) o ≡ least (due_rounds reading copies)) [
        | None ↦ λ none.
            sym (none_from (due_rounds reading copies) (λ m. same m ∙ first_none rounds none m))
        | Some entry ↦ λ some.
            let first = first_some rounds entry rising some in
            sym (least_from (due_rounds reading copies) entry.round (same entry.round ∙ first.0)
            (λ m has. first.1 m (sym (same m) ∙ has)))
      ]) refl
