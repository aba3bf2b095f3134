use Rattle.std.proofs.Common.{◌+◌, ◌-◌, ◌/◌, true, false, refl, sym, arith}
use Rattle.std.proofs.lemmas.Fn.{says_at}
use Rattle.link_buffers.proofs.PartitionPoints.{pass_to, fail_from}
use Rattle.link_buffers.proofs.binary_search.partition_point.Goals as goal

pub loop-low-preserved-then-pred : goal.loop-low-preserved-then-pred
loop-low-preserved-then-pred g c =
    let middle = c.loop-low.low + (c.loop-low.high - c.loop-low.low) / 2 in
    let item = c.standing_at.result.now in (
      omega arith,
      c.loop-low.invariant.1,
      λ p test parted. (
        pass_to p c.args.ring.now.items middle item (omega arith) c.standing_at.ensures parted
            (sym (test item true (says_at g.P.Fn c.if-pred.ensures refl))),
        (c.loop-low.invariant.2 p test parted).1,
      ),
    )

pub loop-low-preserved : goal.loop-low-preserved
loop-low-preserved g c =
    let middle = c.loop-low.low + (c.loop-low.high - c.loop-low.low) / 2 in
    let item = c.standing_at.result.now in (
      omega arith,
      omega arith,
      λ p test parted. (
        (c.loop-low.invariant.2 p test parted).0,
        fail_from p c.args.ring.now.items middle item (omega arith) c.standing_at.ensures parted
            (sym (test item false (says_at g.P.Fn c.if-pred.ensures refl))),
      ),
    )
