use Rattle.std.proofs.Common.{◌≡◌, length, take}
use Rattle.pals_base.proofs.equality.same_items.Given as goal

-- the lists have the same length, and the same items so far
abbrev pub invariant-loop-at : goal.invariant-loop-at
invariant-loop-at g l = (length l.left ≡ length l.right) × (take l.at l.left ≡ take l.at l.right)
