use Rattle.std.proofs.Common.{◌≡◌, Some, insert, remove, slice_get}
use Rattle.circular_buffer.specs.Buffer.{buffer}
use Rattle.link_buffers.proofs.ring_insertion_and_removal.put_by_back.Given as goal

-- of the list with the item inserted, the one at this place is held, and the others are in the ring
abbrev pub invariant-loop-moved : goal.invariant-loop-moved
invariant-loop-moved g l =
    let whole = insert l.fn.ring.items l.place l.fn.item in
    (l.ring ≡ buffer (remove whole l.moved) l.fn.ring.capacity) × (slice_get whole l.moved ≡ Some l.held)
