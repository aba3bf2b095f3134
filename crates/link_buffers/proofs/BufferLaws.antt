-- For this crate's laws: the oldest copy is the first of its round, the smallest number is in its list, and how often
-- an entry occurs in a list.
use Rattle.std.proofs.Common.{◌≡◌, ℕ, zero, suc, ◌+◌, ◌<◌, ◌≤◌, min, Bool, true, false, not, cond, List, [], ◌∷◌, ◌++◌}
use Rattle.std.proofs.Common.{length, get_or, filter, find, fold, All, Contains, count_by, Some, None, slice_get}
use Rattle.std.proofs.Common.{⊎_elim, refl, sym, ap, ◌∙◌, subst, arith, length-append, length-take}
use Rattle.std.specs.List.{position_or_len, before_first, after_first}
use Rattle.std.proofs.lemmas.List.{get_or-take}
use Rattle.std.proofs.lemmas.Bool.{cases_lt}
use Rattle.std.proofs.lemmas.List.Elements.{filter-append, All-nil, All-cons}
use Rattle.std.proofs.lemmas.List.Folds.{find_at}
use Rattle.std.proofs.lemmas.List.Sums.{length-filter, split_at_first, passes_at_first, fails_before_first}
use Rattle.std.proofs.lemmas.Option.{slice_get_within, get_or_from_slice_get, same_Some}
use Rattle.link_buffers.specs.declared.due_queue.DueEntry.{DueEntry}
use Rattle.link_buffers.specs.proof.FirstAndLeastItems.{IsFirst, least}
use Rattle.link_buffers.specs.proof.DueQueues.{comes_before, is_entry, with_entry, without_entry}
use Rattle.link_buffers.proofs.FirstPassingItem.{without_any}
use Rattle.link_buffers.proofs.DueOrder.{entry_is_itself, entry_from_test}

-- ---- the first that passes
module _ {X : Type 0} (p : X → Bool) where
  pub first_from_find : (xs : List X) (x : X) → find p xs ≡ Some x
      → IsFirst p xs x (before_first p xs ++ after_first p xs)
  first_from_find xs x is =
      let n = position_or_len p xs in
      let at : slice_get xs n ≡ Some x = sym (find_at p xs) ∙ is in
      let within : n < length xs = slice_get_within xs n x at in
      let here : get_or xs n x ≡ x = get_or_from_slice_get xs n x x at in record {
        before = before_first p xs;
        after = after_first p xs;
        all = split_at_first p xs x within ∙ ap (λ y. before_first p xs ++ y ∷ after_first p xs) here;
        rest = refl;
        here = subst (λ y. p y ≡ true) here (passes_at_first p xs x within);
        none_before =
            λ k d lt. rw (get_or-take n xs k d (omega (arith, length-take n xs)))
            (fails_before_first p xs k d (omega (arith, length-take n xs)));
      }

  pub none_from_find : (xs : List X) → find p xs ≡ None → All (λ x. p x ≡ false) xs
  none_from_find [] none = All-nil (λ x. p x ≡ false)
  none_from_find (x ∷ xs) none =
      (elim (p x) as (λ b. p x ≡ b → cond b (Some x) (find p xs) ≡ None → All (λ y. p y ≡ false) (x ∷ xs)) [
        | true ↦ λ here some. absurd (cc)
        | false ↦ λ here rest. All-cons (λ y. p y ≡ false) x xs here (none_from_find xs rest)
      ]) refl none

-- ---- the minimum
least_below : (n : ℕ) (ns : List ℕ) → (fold min n ns ≤ n) × All (λ m. fold min n ns ≤ m) ns
least_below n [] = (omega arith, All-nil (λ m. n ≤ m))
least_below n (m ∷ ms) =
    let r = fold min (min n m) ms in
    let rest = least_below (min n m) ms in
    let low : r ≤ min n m = rest.0 in
    (omega arith, All-cons (λ k. r ≤ k) m ms (omega arith) rest.1)

one_earlier : (n m r : ℕ) (ms : List ℕ) (k : ℕ) → k < length (min n m ∷ ms) → get_or (min n m ∷ ms) k r ≡ r
    → Contains (n ∷ m ∷ ms) r
one_earlier n m r ms zero within here =
    ⊎_elim
    (λ (lt : m < n). (1, omega arith, let same : m ≡ r = omega (arith, here) in same))
    (λ (ge : n ≤ m). (0, omega arith, let same : n ≡ r = omega (arith, here) in same))
    (cases_lt m n)
one_earlier n m r ms (suc k) within here = (suc (suc k), omega arith, here)

least_within : (n : ℕ) (ns : List ℕ) → Contains (n ∷ ns) (fold min n ns)
least_within n [] = (0, omega arith, refl)
least_within n (m ∷ ms) =
    let rest = least_within (min n m) ms in
    one_earlier n m (fold min (min n m) ms) ms rest.0 rest.1 rest.2

pub least_some : (numbers : List ℕ) (n : ℕ) → least numbers ≡ Some n → Contains numbers n × All (λ m. n ≤ m) numbers
least_some [] n some = absurd (cc)
least_some (m ∷ ms) n some =
    let same : fold min m ms ≡ n = same_Some (fold min m ms) n some in
    let below = least_below m ms in
    subst (λ r. Contains (m ∷ ms) r × All (λ k. r ≤ k) (m ∷ ms)) same
    (least_within m ms, All-cons (λ k. fold min m ms ≤ k) m ms below.0 below.1)

pub least_none : (numbers : List ℕ) → least numbers ≡ None → numbers ≡ []
least_none [] none = refl
least_none (m ∷ ms) none = absurd (cc)

-- ---- counts
module _ {X : Type 0} (q : X → Bool) where
  -- how many of a list pass
  abbrev passing : List X → ℕ
  passing xs = length (filter q xs)

  passing-cons : (x : X) (xs : List X) → passing (x ∷ xs) ≡ passing (x ∷ []) + passing xs
  passing-cons x xs =
      elim (q x) as (λ b. length (cond b (x ∷ filter q xs) (filter q xs))
      ≡ length (cond b (x ∷ []) []) + length (filter q xs)) [ true ↦ omega arith | false ↦ omega arith ]

  passing-append : (xs ys : List X) → passing (xs ++ ys) ≡ passing xs + passing ys
  passing-append xs ys = ap length (filter-append q xs ys) ∙ length-append (filter q xs) (filter q ys)

  passing-parts : (p : X → Bool) (xs : List X)
      → passing (filter (λ x. not (p x)) xs) + passing (filter p xs) ≡ passing xs
  passing-parts p [] = refl
  passing-parts p (x ∷ xs) =
      let rest = passing-parts p xs in
      let one = passing-cons x xs in
      elim (p x) as (λ b. passing (cond (not b) (x ∷ filter (λ y. not (p y)) xs) (filter (λ y. not (p y)) xs))
      + passing (cond b (x ∷ filter p xs) (filter p xs)) ≡ passing (x ∷ xs)) [
        | true ↦ let here = passing-cons x (filter p xs) in omega arith
        | false ↦ let here = passing-cons x (filter (λ y. not (p y)) xs) in omega arith
      ]

  same_count : (xs ys : List X) → passing xs ≡ passing ys → count_by q xs ≡ count_by q ys
  same_count xs ys same = sym (length-filter q xs) ∙ (same ∙ length-filter q ys)

  pub count_parts : (p : X → Bool) (x : X) (xs : List X)
      → count_by q (filter (λ y. not (p y)) xs ++ x ∷ filter p xs) ≡ count_by q (x ∷ xs)
  count_parts p x xs =
      same_count (filter (λ y. not (p y)) xs ++ x ∷ filter p xs) (x ∷ xs)
      (omega (
        arith,
        passing-append (filter (λ y. not (p y)) xs) (x ∷ filter p xs),
        passing-cons x (filter p xs),
        passing-cons x xs,
        passing-parts p xs,
      ))

  pub count_moved : (x : X) (before after : List X)
      → count_by q (x ∷ (before ++ after)) ≡ count_by q (before ++ x ∷ after)
  count_moved x before after =
      same_count (x ∷ (before ++ after)) (before ++ x ∷ after)
      (omega (
        arith,
        passing-cons x (before ++ after),
        passing-append before after,
        passing-append before (x ∷ after),
        passing-cons x after,
      ))

-- ---- entries
pub count_with : (entry other : DueEntry) (entries : List DueEntry)
    → count_by (is_entry other) (with_entry entry entries) ≡ count_by (is_entry other) (entry ∷ entries)
count_with entry other entries = count_parts (is_entry other) (comes_before entry) entry entries

pub count_without : (entry other : DueEntry) (entries : List DueEntry) → Contains entries entry
    → count_by (is_entry other) (entry ∷ without_entry entry entries) ≡ count_by (is_entry other) entries
count_without entry other entries has =
    let p = is_entry entry in
    let n = position_or_len p entries in
    let stands : p (get_or entries has.0 entry) ≡ true = subst (λ e. p e ≡ true) (sym has.2) (entry_is_itself entry) in
    let within : n < length entries =
    ⊎_elim (λ (lt : has.0 < n). let fails = fails_before_first p entries has.0 entry lt in absurd (cc))
    (λ (ge : n ≤ has.0). omega (arith, has.1)) (cases_lt has.0 n) in
    let here : get_or entries n entry ≡ entry =
    sym (entry_from_test entry (get_or entries n entry) (passes_at_first p entries entry within)) in
    let all : entries ≡ before_first p entries ++ entry ∷ after_first p entries = split_at_first p entries entry within
    ∙ ap (λ e. before_first p entries ++ e ∷ after_first p entries) here in
    count_moved (is_entry other) entry (before_first p entries) (after_first p entries)
    ∙ ap (count_by (is_entry other)) (sym all)

-- ---- no copy of a round
pub without_none : {X : Type 0} (p : X → Bool) (xs : List X) → find p xs ≡ None
    → before_first p xs ++ after_first p xs ≡ xs
without_none p [] none = refl
without_none p (x ∷ xs) none = let fails = none_from_find p (x ∷ xs) none in
    without_any p (x ∷ xs) x (λ k within. fails k x within)
