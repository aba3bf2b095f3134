use Rattle.std.proofs.Common.{◌≡◌, suc, ◌+◌, ◌-◌, Some, length, remove, slice_get, arith, length-take}
use Rattle.circular_buffer.specs.Buffer.{buffer}
use Rattle.link_buffers.proofs.ShiftedItems.{moved_back}
use Rattle.link_buffers.proofs.ring_insertion_and_removal.take_by_back.Goals as goal

pub loop-moved-preserved : goal.loop-moved-preserved
loop-moved-preserved g c =
    let xs = c.args.ring.now.items in
    let room = c.args.ring.now.capacity in
    let n = length xs - 1 - (c.loop-moved.moved + 1) in
    let here : length xs - 1 - c.loop-moved.moved ≡ suc n = omega arith in
    let long : length c.pop_back.new.self.items ≡ length xs - 1 =
    rw c.pop_back.ensures.items (omega (arith, length-take (length xs - 1) xs)) in
    let at : c.len-last.result - 1 - c.loop-moved.moved ≡ n = omega arith in
    let ring : c.loop-moved.ring ≡ buffer (remove xs (suc n)) room = rw here at c.loop-moved.invariant.0 in
    let held : slice_get xs (suc n) ≡ Some c.loop-moved.held = rw here at c.loop-moved.invariant.1 in
    moved_back xs room n c.loop-moved.held c.exchange.new.held c.loop-moved.ring c.exchange.new.ring (omega arith)
    (rw at at c.exchange.ensures.ring) (rw at at c.exchange.ensures.held) ring held
