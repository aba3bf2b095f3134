-- For the functions of `copies_by_round`: the copies of a round, as an entry of the table changes, is put in or goes.
use Rattle.std.proofs.Common.{◌≡◌, ℕ, zero, suc, ◌<◌, ◌≤◌, ◌==◌, nat_eq, nat_lt, Bool, true, false, not, ◌&&◌, cond}
use Rattle.std.proofs.Common.{List, [], ◌∷◌, length, get_or, set, insert, filter, find, Option, Some, None, slice_get}
use Rattle.std.proofs.Common.{⊎_elim, refl, sym, ap, ◌∙◌, subst, arith}
use Rattle.std.specs.Option.{option_map_or}
use Rattle.std.specs.List.Sorted.{IsPartitionedBy}
use Rattle.std.proofs.lemmas.Grind.{common_steps}
use Rattle.std.proofs.lemmas.Bool.{cases_lt}
use Rattle.std.proofs.Common.{eqb-true}
use Rattle.std.proofs.lemmas.Bool.Decides.{nat_tests}
use Rattle.std.proofs.lemmas.List.Elements.{All-set}
use Rattle.std.proofs.lemmas.List.Kept.{AllPairs-cons, AllPairs-filter}
use Rattle.std.proofs.lemmas.Option.{same_Some, slice_get-get_or, slice_get_within, get_or_from_slice_get}
use Rattle.pals_model.specs.declared.flight_copy.FlightCopy.{FlightCopy}
use Rattle.link_buffers.specs.declared.copies_by_round.RoundCopies.{RoundCopies}
use Rattle.link_buffers.specs.proof.BinarySearch.{IsFirstToFail}
use Rattle.link_buffers.specs.proof.CopiesByRound.{is_for, copies_of, AreRising, has_copies, has_copies_for}
use Rattle.link_buffers.proofs.PartitionedLists.{all_pairs_insert}

no_items : (copies : List FlightCopy) → not (length copies == 0) ≡ false → copies ≡ []
no_items [] none = refl
no_items (c ∷ copies) none = let some : 0 < length (c ∷ copies) = omega arith in absurd (grind (arith, nat_tests))

items_there : (copies : List FlightCopy) → not (length copies == 0) ≡ true → 0 < length copies
items_there [] some = absurd (cc)
items_there (c ∷ copies) some = omega arith

-- a table without its first entry
pub rising_rest : (x : RoundCopies) (xs : List RoundCopies) → AreRising (x ∷ xs) → AreRising xs
rising_rest x xs rising i j d lt within = rising (suc i) (suc j) d (omega arith) (omega arith)

pub rising_head : (x : RoundCopies) (xs : List RoundCopies) → AreRising (x ∷ xs) → (k : ℕ) (d : RoundCopies)
    → k < length xs
    → x.round < (get_or xs k d).round
rising_head x xs rising k d within = rising zero (suc k) d (omega arith) (omega arith)

empty : (x : RoundCopies) → has_copies x ≡ false → x.copies ≡ []
empty x none = no_items x.copies none

module _ (r : ℕ) where
  -- the entries ahead of a place are for other rounds
  abbrev pub AreOthers : List RoundCopies → ℕ → Type 0
  AreOthers xs n = (k : ℕ) (d : RoundCopies) → k < n → is_for r (get_or xs k d) ≡ false

  pub copies-other : (x : RoundCopies) (xs : List RoundCopies) → is_for r x ≡ false
      → copies_of r (x ∷ xs) ≡ copies_of r xs
  copies-other x xs other =
      ap (λ b. option_map_or (λ (e : RoundCopies). e.copies) (cond b (Some x) (find (is_for r) xs)) []) other

  pub copies-here : (x : RoundCopies) (xs : List RoundCopies) → is_for r x ≡ true → copies_of r (x ∷ xs) ≡ x.copies
  copies-here x xs here =
      ap (λ b. option_map_or (λ (e : RoundCopies). e.copies) (cond b (Some x) (find (is_for r) xs)) []) here

  others_rest : (x : RoundCopies) (xs : List RoundCopies) (n : ℕ) → AreOthers (x ∷ xs) (suc n) → AreOthers xs n
  others_rest x xs n others k d lt = others (suc k) d (omega arith)

  pub copies_nowhere : (xs : List RoundCopies) → AreOthers xs (length xs) → copies_of r xs ≡ []
  copies_nowhere [] others = refl
  copies_nowhere (x ∷ xs) others =
      copies-other x xs (others zero x (omega arith)) ∙ copies_nowhere xs (λ k d lt. others (suc k) d (omega arith))

  pub copies_at : (xs : List RoundCopies) (n : ℕ) (s : RoundCopies) → AreOthers xs n → slice_get xs n ≡ Some s
      → is_for r s ≡ true → copies_of r xs ≡ s.copies
  copies_at [] n s others at here = absurd (cc)
  copies_at (x ∷ xs) zero s others at here =
      let same : x ≡ s = same_Some x s at in
      copies-here x xs (subst (λ y. is_for r y ≡ true) (sym same) here) ∙ ap (λ y. y.copies) same
  copies_at (x ∷ xs) (suc n) s others at here =
      copies-other x xs (others zero x (omega arith)) ∙ copies_at xs n s (others_rest x xs n others) at here

  -- ---- an entry changes, or one more is put in
  pub copies_set : (xs : List RoundCopies) (n : ℕ) (y : RoundCopies) → n < length xs → AreOthers xs n
      → is_for r y ≡ true → copies_of r (set xs n y) ≡ y.copies
  copies_set [] n y within others here = absurd (omega arith)
  copies_set (x ∷ xs) zero y within others here = copies-here y xs here
  copies_set (x ∷ xs) (suc n) y within others here =
      copies-other x (set xs n y) (others zero x (omega arith))
      ∙ copies_set xs n y (omega arith) (others_rest x xs n others) here

  pub copies_insert : (xs : List RoundCopies) (n : ℕ) (y : RoundCopies) → n ≤ length xs → AreOthers xs n
      → is_for r y ≡ true → copies_of r (insert xs n y) ≡ y.copies
  copies_insert [] zero y within others here = copies-here y [] here
  copies_insert [] (suc n) y within others here = absurd (omega arith)
  copies_insert (x ∷ xs) zero y within others here = copies-here y (x ∷ xs) here
  copies_insert (x ∷ xs) (suc n) y within others here =
      copies-other x (insert xs n y) (others zero x (omega arith))
      ∙ copies_insert xs n y (omega arith) (others_rest x xs n others) here

  -- two tables with the same first entry, that agree otherwise
  same_head : (x : RoundCopies) (xs ys : List RoundCopies) → copies_of r ys ≡ copies_of r xs
      → copies_of r (x ∷ ys) ≡ copies_of r (x ∷ xs)
  same_head x xs ys same =
      elim (is_for r x) as
      (λ b. option_map_or (λ (e : RoundCopies). e.copies) (cond b (Some x) (find (is_for r) ys)) []
      ≡ option_map_or (λ (e : RoundCopies). e.copies) (cond b (Some x) (find (is_for r) xs)) []) [
        | true ↦ refl
        | false ↦ same
      ]

  pub other_set : (xs : List RoundCopies) (n : ℕ) (y : RoundCopies) → is_for r y ≡ false
      → ((d : RoundCopies) → is_for r (get_or xs n d) ≡ false) → copies_of r (set xs n y) ≡ copies_of r xs
  other_set [] n y other was = refl
  other_set (x ∷ xs) zero y other was = copies-other y xs other ∙ sym (copies-other x xs (was x))
  other_set (x ∷ xs) (suc n) y other was = same_head x xs (set xs n y) (other_set xs n y other was)

  pub other_insert : (xs : List RoundCopies) (n : ℕ) (y : RoundCopies) → is_for r y ≡ false
      → copies_of r (insert xs n y) ≡ copies_of r xs
  other_insert [] zero y other = copies-other y [] other
  other_insert [] (suc n) y other = copies-other y [] other
  other_insert (x ∷ xs) zero y other = copies-other y (x ∷ xs) other
  other_insert (x ∷ xs) (suc n) y other = same_head x xs (insert xs n y) (other_insert xs n y other)

  -- ---- rounds without copies go
  pub copies_kept : (xs : List RoundCopies) → AreRising xs → copies_of r (filter has_copies xs) ≡ copies_of r xs
  copies_kept [] rising = refl
  copies_kept (x ∷ xs) rising =
      let ys = filter has_copies xs in
      let rest : copies_of r ys ≡ copies_of r xs = copies_kept xs (rising_rest x xs rising) in
      (elim (has_copies x) as
      (λ b. has_copies x ≡ b → copies_of r (cond b (x ∷ ys) ys) ≡ copies_of r (x ∷ xs)) [
        | true ↦ λ some. same_head x xs ys rest
        | false ↦ λ none. (elim (is_for r x) as (λ b. is_for r x ≡ b → copies_of r ys ≡ copies_of r (x ∷ xs)) [
          | true ↦ λ here.
              rest ∙ copies_nowhere xs (λ k d lt. let later =
              rising_head x xs rising k d lt in grind (arith, nat_tests))
              ∙ sym (copies-here x xs here ∙ empty x none)
          | false ↦ λ other. rest ∙ sym (copies-other x xs other)
        ]) refl
      ]) refl

pub rising_kept : (xs : List RoundCopies) → AreRising xs → AreRising (filter has_copies xs)
rising_kept xs rising = AllPairs-filter (λ (a : RoundCopies) (b : RoundCopies). a.round < b.round) has_copies xs rising

pub rising_set : (xs : List RoundCopies) (n : ℕ) (y : RoundCopies) → AreRising xs → n < length xs
    → ((d : RoundCopies) → y.round ≡ (get_or xs n d).round) → AreRising (set xs n y)
rising_set [] n y rising within same = absurd (omega arith)
rising_set (x ∷ xs) zero y rising within same =
    AllPairs-cons (λ (a : RoundCopies) (b : RoundCopies). a.round < b.round) y xs
    (λ k d lt. omega (arith, rising_head x xs rising k d lt, same x)) (rising_rest x xs rising)
rising_set (x ∷ xs) (suc n) y rising within same =
    AllPairs-cons (λ (a : RoundCopies) (b : RoundCopies). a.round < b.round) x (set xs n y)
    (All-set (λ (e : RoundCopies). x.round < e.round) xs n y
    (let later = rising_head x xs rising n x (omega arith) in omega (arith, same x)) (rising_head x xs rising))
    (rising_set xs n y (rising_rest x xs rising) (omega arith) same)

-- ---- the place that halving finds for a round
entry_found : {X : Type 0} (p : X → Bool) (o : Option X) → option_map_or p o false ≡ true
    → (x : X) × (o ≡ Some x) × (p x ≡ true)
entry_found p None found = absurd (cc)
entry_found p (Some x) found = (x, refl, found)

pub parted_by_round : (r : ℕ) (xs : List RoundCopies) → AreRising xs
    → IsPartitionedBy (λ (e : RoundCopies). nat_lt e.round r) xs
parted_by_round r xs rising i j d le within passes =
    ⊎_elim
    (λ (lt : i < j). let less = rising i j d lt within in grind (arith, nat_tests))
    (λ (ge : j ≤ i). let same : j ≡ i = omega arith in
    subst (λ k. nat_lt (get_or xs k d).round r ≡ true) same passes)
    (cases_lt i j)

module _ (r : ℕ) (xs : List RoundCopies) (n : ℕ) (rising : AreRising xs) (within : n ≤ length xs)
    (parts : IsFirstToFail (λ (e : RoundCopies). nat_lt e.round r) xs n) where
  pub others_ahead : AreOthers r xs n
  others_ahead k d lt = let earlier = parts.0 k d (omega arith) lt in grind (arith, nat_tests)

  -- the entry there is that of the round
  module _ (there : option_map_or (is_for r) (slice_get xs n) false ≡ true) where
    found : (s : RoundCopies) × (slice_get xs n ≡ Some s) × (is_for r s ≡ true)
    found = entry_found (is_for r) (slice_get xs n) there

    abbrev s : RoundCopies
    s = found.0

    pub inside : n < length xs
    inside = slice_get_within xs n s found.1

    entry_is : (d : RoundCopies) → get_or xs n d ≡ s
    entry_is d = get_or_from_slice_get xs n s d found.1

    round_is : (d : RoundCopies) → r ≡ (get_or xs n d).round
    round_is d = sym (eqb-true s.round r found.2) ∙ ap (λ (e : RoundCopies). e.round) (sym (entry_is d))

    pub copies_there : (d : RoundCopies) → copies_of r xs ≡ (get_or xs n d).copies
    copies_there d = copies_at r xs n s others_ahead found.1 found.2
        ∙ ap (λ (e : RoundCopies). e.copies) (sym (entry_is d))

    module _ (d : RoundCopies) (ys : List FlightCopy) where
      abbrev changed : RoundCopies
      changed = record (get_or xs n d) { copies = ys }

      pub rising_changed : AreRising (set xs n changed)
      rising_changed = rising_set xs n changed rising inside (λ e. sym (round_is d) ∙ round_is e)

      pub copies_changed : copies_of r (set xs n changed) ≡ ys
      copies_changed = copies_set r xs n changed inside others_ahead (let same = round_is d in grind (arith, nat_tests))

      pub others_changed : (other : ℕ) → nat_eq r other ≡ false
          → copies_of other (set xs n changed) ≡ copies_of other xs
      others_changed other apart =
          other_set other xs n changed (subst (λ m. nat_eq m other ≡ false) (round_is d) apart)
          (λ e. subst (λ m. nat_eq m other ≡ false) (round_is e) apart)

  -- the entry there is not that of the round
  module _ (absent : option_map_or (is_for r) (slice_get xs n) false ≡ false) where
    not_at : (d : RoundCopies) → n < length xs → is_for r (get_or xs n d) ≡ false
    not_at d lt = let at = slice_get-get_or xs n d lt in grind (arith, common_steps)

    pub later_from : (k : ℕ) (d : RoundCopies) → n ≤ k → k < length xs → r < (get_or xs k d).round
    later_from k d low lt =
        let no = parts.1 n d (omega arith) (omega arith) in
        let other = not_at d (omega arith) in
        let here : r < (get_or xs n d).round = grind (arith, nat_tests) in
        ⊎_elim
        (λ (more : n < k). omega (arith, rising n k d more lt, here))
        (λ (less : k ≤ n). let same : n ≡ k = omega arith in subst (λ m. r < (get_or xs m d).round) same here)
        (cases_lt n k)

    pub nowhere : copies_of r xs ≡ []
    nowhere =
        copies_nowhere r xs (λ k d lt. ⊎_elim (λ (less : k < n). others_ahead k d less)
        (λ (more : n ≤ k). let later = later_from k d more lt in grind (arith, nat_tests)) (cases_lt k n))

    rising_insert : (y : RoundCopies) → y.round ≡ r → AreRising (insert xs n y)
    rising_insert y same =
        all_pairs_insert (λ earlier later. earlier.round < later.round) xs n y rising within
        (λ k d lt. let earlier = parts.0 k d (omega arith) lt in grind (arith, nat_tests))
        (λ k d low lt. omega (arith, later_from k d low lt, same))

    module _ (ys : List FlightCopy) where
      abbrev added : RoundCopies
      added = record { round = r; copies = ys }

      pub rising_added : AreRising (insert xs n added)
      rising_added = rising_insert added refl

      pub copies_added : copies_of r (insert xs n added) ≡ ys
      copies_added = copies_insert r xs n added within others_ahead (grind (arith, nat_tests))

      pub others_added : (other : ℕ) → nat_eq r other ≡ false
          → copies_of other (insert xs n added) ≡ copies_of other xs
      others_added other apart = other_insert other xs n added apart

pub first_of_two : (a b : Bool) → a && b ≡ true → (a ≡ true) × (b ≡ true)
first_of_two true b both = (refl, both)
first_of_two false b both = absurd (cc)

module _ (r : ℕ) (xs : List RoundCopies) (n : ℕ) (rising : AreRising xs) (within : n ≤ length xs)
    (parts : IsFirstToFail (λ (e : RoundCopies). nat_lt e.round r) xs n) where
  pub no_copies : option_map_or (has_copies_for r) (slice_get xs n) false ≡ false → copies_of r xs ≡ []
  no_copies absent =
      (elim (slice_get xs n) as (λ o. slice_get xs n ≡ o → option_map_or (has_copies_for r) o false ≡ false
      → copies_of r xs ≡ []) [
        | None ↦ λ at _. nowhere r xs n rising within parts (ap (λ o. option_map_or (is_for r) o false) at)
        | Some s ↦ λ at fails. (elim (is_for r s) as
            (λ b. is_for r s ≡ b → b && has_copies s ≡ false → copies_of r xs ≡ []) [
              | true ↦ λ here none. copies_at r xs n s (others_ahead r xs n rising within parts) at here ∙ empty s none
              | false ↦ λ other _. nowhere r xs n rising within parts
                  (ap (λ o. option_map_or (is_for r) o false) at ∙ other)
            ]) refl fails
      ]) refl absent

pub entry_is_for : (r : ℕ) (o : Option RoundCopies) → option_map_or (has_copies_for r) o false ≡ true
    → option_map_or (is_for r) o false ≡ true
entry_is_for r o has = let s = entry_found (has_copies_for r) o has in
    ap (λ o. option_map_or (is_for r) o false) s.1 ∙ (first_of_two (is_for r s.0) (has_copies s.0) s.2).0

pub entry_has_copies : (r : ℕ) (xs : List RoundCopies) (n : ℕ) (d : RoundCopies)
    → option_map_or (has_copies_for r) (slice_get xs n) false ≡ true → 0 < length (get_or xs n d).copies
entry_has_copies r xs n d has = let s = entry_found (has_copies_for r) (slice_get xs n) has in
    subst (λ (e : RoundCopies). 0 < length e.copies) (sym (get_or_from_slice_get xs n s.0 d s.1))
    (items_there s.0.copies (first_of_two (is_for r s.0) (has_copies s.0) s.2).1)
