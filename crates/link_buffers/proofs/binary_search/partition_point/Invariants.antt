use Rattle.std.proofs.Common.{◌-◌, ◌≡◌, ◌≤◌, Bool, true, false, length}
use Rattle.std.specs.List.{AllWithin}
use Rattle.std.specs.List.Sorted.{IsPartitionedBy}
use Rattle.link_buffers.specs.proof.BinarySearch.{IsTest}
use Rattle.link_buffers.proofs.binary_search.partition_point.Given as goal

-- the items ahead of the low place pass, and those from the high one on fail
abbrev pub invariant-loop-low : goal.invariant-loop-low
invariant-loop-low g l =
    (l.low ≤ l.high) × (l.high ≤ length l.ring.items)
    × ((p : g.row.T.Denot → Bool) → IsTest g.P.Fn l.pred p → IsPartitionedBy p l.ring.items
    → AllWithin (λ x. p x ≡ true) l.ring.items 0 l.low
    × AllWithin (λ x. p x ≡ false) l.ring.items l.high (length l.ring.items))

abbrev pub decreases-loop-low : goal.decreases-loop-low
decreases-loop-low g l = l.high - l.low
