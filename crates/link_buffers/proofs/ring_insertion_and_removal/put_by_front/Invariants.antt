use Rattle.std.proofs.Common.{◌≡◌, ◌-◌, Some, insert, remove, slice_get}
use Rattle.circular_buffer.specs.Buffer.{buffer}
use Rattle.link_buffers.proofs.ring_insertion_and_removal.put_by_front.Given as goal

-- of the list with the item inserted, the one `moved` places ahead of it is held, and the others are in the ring
abbrev pub invariant-loop-moved : goal.invariant-loop-moved
invariant-loop-moved g l =
    let whole = insert l.fn.ring.items l.ahead l.fn.item in
    (l.ring ≡ buffer (remove whole (l.ahead - l.moved)) l.fn.ring.capacity)
    × (slice_get whole (l.ahead - l.moved) ≡ Some l.held)
