-- For `partition_point`: in a list where no item passes a test after one that fails it, all pass up to one place and
-- fail from it on.
use Rattle.std.proofs.Common.{◌≡◌, ℕ, ◌+◌, ◌<◌, Bool, true, false, List, length, get_or, ap, ◌∙◌, arith}
use Rattle.std.specs.List.{AllWithin}
use Rattle.std.specs.List.Sorted.{IsPartitionedBy}
use Rattle.std.proofs.lemmas.Bool.{false_from_ne_true}

module _ {X : Type 0} (p : X → Bool) (xs : List X) (n : ℕ) (x : X) (within : n < length xs)
    (at : (d : X) → get_or xs n d ≡ x) (parted : IsPartitionedBy p xs) where
  pub pass_to : p x ≡ true → AllWithin (λ y. p y ≡ true) xs 0 (n + 1)
  pass_to here k d low lt = parted k n d (omega arith) within (ap p (at d) ∙ here)

  pub fail_from : p x ≡ false → AllWithin (λ y. p y ≡ false) xs n (length xs)
  fail_from here k d low lt =
      false_from_ne_true (p (get_or xs k d))
      (λ passes. let both = parted n k d low lt passes in let no = ap p (at d) ∙ here in absurd (cc))
