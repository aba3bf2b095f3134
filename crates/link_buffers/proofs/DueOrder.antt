-- The order of due entries, by due reading, link and round: it is a strict order, and two entries of which neither
-- comes first are equal.
use Rattle.std.proofs.Common.{◌≡◌, ℕ, ◌≤◌, true, false, ap, ◌∙◌, arith}
use Rattle.std.proofs.lemmas.Bool.Decides.{nat_tests}
use Rattle.link_buffers.specs.declared.due_queue.DueEntry.{DueEntry}
use Rattle.link_buffers.specs.proof.DueQueues.{comes_before, is_entry}

pub not_before_itself : (a : DueEntry) → comes_before a a ≡ false
not_before_itself a = grind (arith, nat_tests)

pub rises_on : (a b c : DueEntry) → comes_before b a ≡ false → comes_before c b ≡ false → comes_before c a ≡ false
rises_on a b c first second = grind (arith, nat_tests)

pub before_on : (a b c : DueEntry) → comes_before b a ≡ false → comes_before b c ≡ true → comes_before a c ≡ true
before_on a b c first second = grind (arith, nat_tests)

pub due_rises : (a b : DueEntry) → comes_before b a ≡ false → a.due ≤ b.due
due_rises a b order = grind (arith, nat_tests)

pub before_is_not_after : (a b : DueEntry) → comes_before a b ≡ true → comes_before b a ≡ false
before_is_not_after a b order = grind (arith, nat_tests)

pub before_is_other : (a b : DueEntry) → comes_before a b ≡ true → is_entry b a ≡ false
before_is_other a b order = grind (arith, nat_tests)

pub entry_is_itself : (a : DueEntry) → is_entry a a ≡ true
entry_is_itself a = grind (arith, nat_tests)

abbrev entry : ℕ → ℕ → ℕ → DueEntry
entry x y z = record { due = x; link = record { 0 = y }; round = z }

same_entry : (a b : DueEntry) → a.due ≡ b.due → a.link.0 ≡ b.link.0 → a.round ≡ b.round → a ≡ b
same_entry a b due link round =
    ap (λ x. entry x a.link.0 a.round) due
    ∙ (ap (λ y. entry b.due y a.round) link ∙ ap (λ z. entry b.due b.link.0 z) round)

pub entry_from_test : (a b : DueEntry) → is_entry a b ≡ true → a ≡ b
entry_from_test a b same =
    same_entry a b (grind (arith, nat_tests)) (grind (arith, nat_tests)) (grind (arith, nat_tests))

pub same_from_neither : (a b : DueEntry) → comes_before a b ≡ false → comes_before b a ≡ false → a ≡ b
same_from_neither a b first second =
    same_entry a b (grind (arith, nat_tests)) (grind (arith, nat_tests)) (grind (arith, nat_tests))
