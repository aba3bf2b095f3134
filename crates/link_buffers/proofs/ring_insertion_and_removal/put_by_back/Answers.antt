use Rattle.std.proofs.Common.{◌≡◌, ◌+◌, length, insert, sym, ap, arith, add-one}
use Rattle.std.proofs.lemmas.List.Edits.{length-insert}
use Rattle.circular_buffer.specs.Buffer.{buffer}
use Rattle.link_buffers.proofs.ShiftedItems.{moved_on, without_new, new_at, whole_by_back}
use Rattle.link_buffers.proofs.ring_insertion_and_removal.put_by_back.Goals as goal

pub loop-moved-init : goal.loop-moved-init
loop-moved-init g c =
    let xs = c.args.ring.now.items in (
      ap (λ zs. buffer zs c.args.ring.now.capacity) (sym (without_new xs c.args.place c.args.item c.requires.place)),
      new_at xs c.args.place c.args.item c.requires.place,
    )

pub loop-moved-preserved : goal.loop-moved-preserved
loop-moved-preserved g c =
    let xs = c.args.ring.now.items in
    let whole = insert xs c.args.place c.args.item in
    let long : length whole ≡ length xs + 1 = length-insert xs c.args.place c.args.item c.requires.place in
    rw add-one (moved_on whole c.args.ring.now.capacity c.loop-moved.moved c.loop-moved.held c.exchange.new.held
    c.loop-moved.ring c.exchange.new.ring (omega arith) c.exchange.ensures.ring c.exchange.ensures.held
    c.loop-moved.invariant.0 c.loop-moved.invariant.1)

pub returns : goal.returns
returns g c =
    let xs = c.args.ring.now.items in
    let whole = insert xs c.args.place c.args.item in
    let long : length whole ≡ length xs + 1 = length-insert xs c.args.place c.args.item c.requires.place in
    whole_by_back whole c.args.ring.now.capacity c.loop-moved.moved c.loop-moved.held c.loop-moved.ring
    c.try_push_back.new.self (omega arith) c.in-Ok.ensures.ok c.loop-moved.invariant.0 c.loop-moved.invariant.1
