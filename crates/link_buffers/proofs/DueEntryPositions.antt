-- For the due queue's `add`, `remove` and `due_count`: the position of an entry in the order of the queue.
use Rattle.std.proofs.Common.{◌≡◌, ◌≢◌, ℕ, ◌<◌, ◌≤◌, true, false, not, List, length, get_or, take, drop, insert, remove}
use Rattle.std.proofs.Common.{filter, Some, slice_get, Contains, ⊎_elim, refl, sym, ap, ◌∙◌, subst, arith}
use Rattle.std.specs.List.Sorted.{IsPartitionPoint, IsPartitionedBy}
use Rattle.std.proofs.lemmas.Grind.{common_steps}
use Rattle.std.proofs.lemmas.Bool.{cases_lt, false_from_ne_true}
use Rattle.std.proofs.lemmas.Bool.Decides.{nat_tests}
use Rattle.std.proofs.lemmas.Option.{slice_get-get_or, slice_get_within, get_or_from_slice_get}
use Rattle.link_buffers.specs.declared.due_queue.DueEntry.{DueEntry}
use Rattle.link_buffers.specs.proof.DueQueues.{comes_before, is_entry, is_due_at, IsRising, with_entry, without_entry}
use Rattle.link_buffers.specs.proof.DueQueues.{queue_of}
use Rattle.link_buffers.proofs.FirstPassingItem.{without_at, without_any}
use Rattle.link_buffers.proofs.PartitionedLists.{filter_front, filter_rest, all_pairs_insert}
use Rattle.link_buffers.proofs.DueOrder.{not_before_itself, rises_on, before_on, due_rises, before_is_not_after}
use Rattle.link_buffers.proofs.DueOrder.{before_is_other, entry_is_itself, entry_from_test, same_from_neither}

-- an entry never comes before one at its own place or an earlier one
rising : (xs : List DueEntry) (i j : ℕ) (d : DueEntry) → IsRising xs → i ≤ j → j < length xs
    → comes_before (get_or xs j d) (get_or xs i d) ≡ false
rising xs i j d order le within =
    ⊎_elim
    (λ lt. order i j d lt within)
    (λ ge. let same : i ≡ j = omega arith in
    subst (λ k. comes_before (get_or xs j d) (get_or xs k d) ≡ false) (sym same)
    (not_before_itself (get_or xs j d)))
    (cases_lt i j)

-- ---- parts of a list in order
pub parted_not_after : (xs : List DueEntry) (entry : DueEntry) → IsRising xs
    → IsPartitionedBy (λ other. not (comes_before entry other)) xs
parted_not_after xs entry order i j d le within passes =
    let later : comes_before entry (get_or xs j d) ≡ false = grind (arith, common_steps) in
    let here : comes_before entry (get_or xs i d) ≡ false =
    rises_on (get_or xs i d) (get_or xs j d) entry (rising xs i j d order le within) later in
    grind (arith, common_steps)

pub parted_before : (xs : List DueEntry) (entry : DueEntry) → IsRising xs
    → IsPartitionedBy (λ other. comes_before other entry) xs
parted_before xs entry order i j d le within passes =
    before_on (get_or xs i d) (get_or xs j d) entry (rising xs i j d order le within) passes

pub parted_due : (xs : List DueEntry) (reading : ℕ) → IsRising xs → IsPartitionedBy (is_due_at reading) xs
parted_due xs reading order i j d le within passes =
    let rises : (get_or xs i d).due ≤ (get_or xs j d).due =
    due_rises (get_or xs i d) (get_or xs j d) (rising xs i j d order le within) in
    grind (arith, nat_tests)

-- ---- one more entry
pub same_queue : (xs ys : List DueEntry) (m n : ℕ) → xs ≡ ys → m ≡ n → queue_of xs m ≡ queue_of ys n
same_queue xs ys m n entries room = ap (λ zs. queue_of zs m) entries ∙ ap (queue_of ys) room

pub inserted : (xs : List DueEntry) (entry : DueEntry) (n : ℕ) → n ≤ length xs
    → IsPartitionPoint (λ other. not (comes_before entry other) ≡ true)
    (λ other. not (comes_before entry other) ≡ false) xs n → insert xs n entry ≡ with_entry entry xs
inserted xs entry n within parts =
    let front : filter (λ other. not (comes_before entry other)) xs
    ≡ take n xs = filter_front (λ other. not (comes_before entry other)) xs n parts within in
    let rest : filter (comes_before entry) xs ≡ drop n xs =
    filter_rest (comes_before entry) xs n (
      λ k d low lt. let no = parts.0 k d low lt in
          grind (arith, common_steps),
      λ k d low lt. let yes = parts.1 k d low lt in
          grind (arith, common_steps),
    ) within in
    rw (front, rest) refl

pub rising-inserted : (xs : List DueEntry) (entry : DueEntry) (n : ℕ) → IsRising xs → n ≤ length xs
    → IsPartitionPoint (λ other. not (comes_before entry other) ≡ true)
    (λ other. not (comes_before entry other) ≡ false) xs n → IsRising (insert xs n entry)
rising-inserted xs entry n order within parts =
    all_pairs_insert (λ earlier later. comes_before later earlier ≡ false) xs n entry order within
    (λ k d lt. let no = parts.0 k d (omega arith) lt in grind (arith, common_steps))
    (λ k d low lt. let yes = parts.1 k d low lt in
    before_is_not_after entry (get_or xs k d) (grind (arith, common_steps)))

-- ---- one entry less

module _ (xs : List DueEntry) (entry : DueEntry) (n : ℕ) (order : IsRising xs)
    (parts : IsPartitionPoint (λ other. comes_before other entry ≡ true)
    (λ other. comes_before other entry ≡ false) xs n) where
  pub removed : slice_get xs n ≡ Some entry → remove xs n ≡ without_entry entry xs
  removed at =
      let here : get_or xs n entry ≡ entry = get_or_from_slice_get xs n entry entry at in
      sym (without_at (is_entry entry) xs n entry (slice_get_within xs n entry at)
      (λ k lt. before_is_other (get_or xs k entry) entry (parts.0 k entry (omega arith) lt))
      (subst (λ e. is_entry entry e ≡ true) (sym here) (entry_is_itself entry)))

  pub found : slice_get xs n ≡ Some entry → Contains xs entry
  found at = (n, slice_get_within xs n entry at, get_or_from_slice_get xs n entry entry at)

  -- an entry of the list that equals this one is at the place
  stands : (k : ℕ) → k < length xs → get_or xs k entry ≡ entry → slice_get xs n ≡ Some entry
  stands k within same =
      ⊎_elim
      (λ lt. let before : comes_before entry entry ≡ true =
      subst (λ e. comes_before e entry ≡ true) same (parts.0 k entry (omega arith) lt) in
      let never = not_before_itself entry in
      absurd (cc))
      (λ ge. let first : comes_before (get_or xs n entry) entry ≡ false = parts.1 n entry (omega arith) (omega arith) in
      let second : comes_before entry (get_or xs n entry) ≡ false =
      subst (λ e. comes_before e (get_or xs n entry) ≡ false) same (rising xs n k entry order ge within) in
      slice_get-get_or xs n entry (omega arith) ∙ ap Some (same_from_neither (get_or xs n entry) entry first second))
      (cases_lt k n)

  pub absent : slice_get xs n ≢ Some entry → ¬ (Contains xs entry)
  absent other has = other (stands has.0 has.1 has.2)

  pub kept : slice_get xs n ≢ Some entry → without_entry entry xs ≡ xs
  kept other =
      without_any (is_entry entry) xs entry
      (λ k within. false_from_ne_true (is_entry entry (get_or xs k entry))
      (λ yes. other (stands k within (sym (entry_from_test entry (get_or xs k entry) yes)))))
