use Rattle.std.proofs.Common.{◌≡◌, Some, remove, slice_get}
use Rattle.circular_buffer.specs.Buffer.{buffer}
use Rattle.link_buffers.proofs.ring_insertion_and_removal.take_by_front.Given as goal

-- the item at this place is held, and the others are in the ring
abbrev pub invariant-loop-place : goal.invariant-loop-place
invariant-loop-place g l =
    (l.ring ≡ buffer (remove l.fn.ring.items l.place) l.fn.ring.capacity)
    × (slice_get l.fn.ring.items l.place ≡ Some l.held)
