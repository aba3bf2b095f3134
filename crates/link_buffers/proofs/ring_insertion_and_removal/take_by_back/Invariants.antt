use Rattle.std.proofs.Common.{◌≡◌, ◌-◌, Some, length, remove, slice_get}
use Rattle.circular_buffer.specs.Buffer.{buffer}
use Rattle.link_buffers.proofs.ring_insertion_and_removal.take_by_back.Given as goal

-- the item ahead of `moved` others is held, and the others are in the ring
abbrev pub invariant-loop-moved : goal.invariant-loop-moved
invariant-loop-moved g l =
    (l.ring ≡ buffer (remove l.fn.ring.items (length l.fn.ring.items - 1 - l.moved)) l.fn.ring.capacity)
    × (slice_get l.fn.ring.items (length l.fn.ring.items - 1 - l.moved) ≡ Some l.held)
