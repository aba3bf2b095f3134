-- Counts, first elements, and lists by their places.
use Rattle.std.proofs.Common.{◌≡◌, ℕ, zero, suc, ◌+◌, ◌≤◌, Bool, true, false, cond, List, [], ◌∷◌, ◌++◌, map, slice_get}
use Rattle.std.proofs.Common.{Option, Some, None, refl, sym, ap, ◌∙◌, arith}
use Rattle.std.specs.Prelude.{find, zip, is_some, slice_index_or, count_by}
use Rattle.std.specs.List.{before_first, after_first, position_or_len}
use Rattle.std.proofs.lemmas.List.Sums.{sum_by-cons, sum_by-append, sum_by_push, split_at_first}
use Rattle.std.proofs.lemmas.List.Folds.{find_at}
use Rattle.pals_runs.specs.declared.events_and_faults.EventFault.{EventFault}
use Rattle.run_laws.specs.EventFaults.{or_else, first_of}
use Rattle.std.proofs.lemmas.Option.{slice_get_within, get_or_from_slice_get}
use Rattle.list_lemmas.proofs.Elements.{find-passes}

-- ---- counts
pub count_more : {X : Type 0} (p : X → Bool) (xs : List X) (x : X)
    → count_by p (xs ++ x ∷ []) ≡ count_by p xs + cond (p x) 1 0
count_more p xs x = sum_by_push (λ y. cond (p y) 1 0) xs x

-- how many pass a test, without the first that passes another
pub count_without : {X : Type 0} (p q : X → Bool) (xs : List X) (x : X) → find p xs ≡ Some x
    → count_by q (before_first p xs ++ after_first p xs) + cond (q x) 1 0 ≡ count_by q xs
count_without {X} p q xs x found =
    let at = position_or_len p xs in
    let f : X → ℕ = λ y. cond (q y) 1 0 in
    let is : slice_get xs at ≡ Some x = sym (find_at p xs) ∙ found in
    let one = get_or_from_slice_get xs at x x is in
    let parts : xs ≡ before_first p xs ++ (slice_index_or xs at x ∷ after_first p xs) =
    split_at_first p xs x (slice_get_within xs at x is) in
    let whole : count_by q xs ≡ count_by q (before_first p xs ++ (x ∷ after_first p xs)) =
    ap (count_by q) (parts ∙ ap (λ y. before_first p xs ++ (y ∷ after_first p xs)) one) in
    let left : count_by q (before_first p xs ++ after_first p xs)
    ≡ count_by q (before_first p xs) + count_by q (after_first p xs) =
    sum_by-append f (before_first p xs) (after_first p xs) in
    let right : count_by q (before_first p xs ++ (x ∷ after_first p xs))
    ≡ count_by q (before_first p xs) + count_by q (x ∷ after_first p xs) =
    sum_by-append f (before_first p xs) (x ∷ after_first p xs) in
    let here : count_by q (x ∷ after_first p xs) ≡ cond (q x) 1 0 + count_by q (after_first p xs) =
    sum_by-cons f x (after_first p xs) in
    omega arith

one_or : {X : Type 0} (p : X → Bool) (x : X) (xs : List X) (b : Bool) → 1 ≤ cond b 1 0 + count_by p xs
    → (1 ≤ count_by p xs → is_some (find p xs) ≡ true) → is_some (cond b (Some x) (find p xs)) ≡ true
one_or p x xs true some later = refl
one_or p x xs false some later = later (omega arith)

-- if at least one element passes, the first one is found
pub one_is_found : {X : Type 0} (p : X → Bool) (xs : List X) → 1 ≤ count_by p xs → is_some (find p xs) ≡ true
one_is_found p [] some = absurd (omega arith)
one_is_found p (x ∷ xs) some =
    let parts = sum_by-cons (λ y. cond (p y) 1 0) x xs in
    one_or p x xs (p x) (omega arith) (one_is_found p xs)

-- a first one that is found is one
pub found_is_one : {X : Type 0} (p : X → Bool) (xs : List X) (x : X) → find p xs ≡ Some x → 1 ≤ count_by p xs
found_is_one p xs x found =
    let whole = count_without p p xs x found in
    let passes : cond {A = ℕ} (p x) 1 0 ≡ 1 = ap (λ (b : Bool). cond {A = ℕ} b 1 0) (find-passes p xs x found) in
    omega arith

-- ---- first faults
pub both_none : (o later : Option EventFault) → or_else o later ≡ None → (o ≡ None) × (later ≡ None)
both_none None later none = (refl, none)
both_none (Some why) later none = absurd (cc)

pub none_first : {X : Type 0} (f : X → Option EventFault) (xs : List X) (k : ℕ) (x : X) → first_of (map f xs) ≡ None
    → slice_get xs k ≡ Some x → f x ≡ None
none_first f [] k x none is = absurd (cc)
none_first f (y ∷ ys) zero x none is = let same : y ≡ x = cc in
    ap f (sym same) ∙ (both_none (f y) (first_of (map f ys)) none).0
none_first f (y ∷ ys) (suc k) x none is = none_first f ys k x (both_none (f y) (first_of (map f ys)) none).1 is

-- ---- places
pub zipped_at : {X Y : Type 0} (xs : List X) (ys : List Y) (k : ℕ) (p : X × Y) → slice_get (zip xs ys) k ≡ Some p
    → (slice_get xs k ≡ Some p.0) × (slice_get ys k ≡ Some p.1)
zipped_at [] ys k p is = absurd (cc)
zipped_at (x ∷ xs) [] k p is = absurd (cc)
zipped_at (x ∷ xs) (y ∷ ys) zero p is = let same : (x, y) ≡ p = cc in (ap (λ q. Some q.0) same, ap (λ q. Some q.1) same)
zipped_at (x ∷ xs) (y ∷ ys) (suc k) p is = zipped_at xs ys k p is
