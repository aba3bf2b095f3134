use Rattle.std.proofs.Common.{arith, add-one}
use Rattle.link_buffers.proofs.ShiftedItems.{moved_on}
use Rattle.link_buffers.proofs.ring_insertion_and_removal.take_by_front.Goals as goal

pub loop-place-preserved : goal.loop-place-preserved
loop-place-preserved g c =
    rw add-one (moved_on c.args.ring.now.items c.args.ring.now.capacity c.loop-place.place c.loop-place.held
    c.exchange.new.held c.loop-place.ring c.exchange.new.ring (omega arith) c.exchange.ensures.ring
    c.exchange.ensures.held c.loop-place.invariant.0 c.loop-place.invariant.1)
