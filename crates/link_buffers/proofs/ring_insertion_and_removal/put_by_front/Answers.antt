use Rattle.std.proofs.Common.{◌≡◌, suc, ◌+◌, ◌-◌, Some, length, insert, remove, slice_get, sym, ap, arith}
use Rattle.std.proofs.lemmas.List.Edits.{length-insert}
use Rattle.circular_buffer.specs.Buffer.{buffer}
use Rattle.link_buffers.proofs.ShiftedItems.{moved_back, without_new, new_at, whole_by_front}
use Rattle.link_buffers.proofs.ring_insertion_and_removal.put_by_front.Goals as goal

pub loop-moved-init : goal.loop-moved-init
loop-moved-init g c =
    let xs = c.args.ring.now.items in
    let none : c.args.ahead - 0 ≡ c.args.ahead = omega arith in
    rw none (
      ap (λ zs. buffer zs c.args.ring.now.capacity)
          (sym (without_new xs c.args.ahead c.args.item c.requires.place)),
      new_at xs c.args.ahead c.args.item c.requires.place,
    )

pub loop-moved-preserved : goal.loop-moved-preserved
loop-moved-preserved g c =
    let xs = c.args.ring.now.items in
    let room = c.args.ring.now.capacity in
    let whole = insert xs c.args.ahead c.args.item in
    let n = c.args.ahead - (c.loop-moved.moved + 1) in
    let long : length whole ≡ length xs + 1 = length-insert xs c.args.ahead c.args.item c.requires.place in
    let here : c.args.ahead - c.loop-moved.moved ≡ suc n = omega arith in
    let at : c.args.ahead - 1 - c.loop-moved.moved ≡ n = omega arith in
    let ring : c.loop-moved.ring ≡ buffer (remove whole (suc n)) room = rw here at c.loop-moved.invariant.0 in
    let held : slice_get whole (suc n) ≡ Some c.loop-moved.held = rw here at c.loop-moved.invariant.1 in
    moved_back whole room n c.loop-moved.held c.exchange.new.held c.loop-moved.ring c.exchange.new.ring (omega arith)
    (rw at at c.exchange.ensures.ring) (rw at at c.exchange.ensures.held) ring held

pub returns : goal.returns
returns g c =
    let whole = insert c.args.ring.now.items c.args.ahead c.args.item in
    let none : c.args.ahead - c.loop-moved.moved ≡ 0 = omega arith in
    let ring : c.loop-moved.ring ≡ buffer (remove whole 0) c.args.ring.now.capacity =
    rw none at c.loop-moved.invariant.0 in
    let held : slice_get whole 0 ≡ Some c.loop-moved.held = rw none at c.loop-moved.invariant.1 in
    whole_by_front whole c.args.ring.now.capacity c.loop-moved.held c.loop-moved.ring c.try_push_front.new.self
    c.in-Ok.ensures.ok ring held
