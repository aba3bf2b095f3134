use Rattle.std.proofs.Common.{ℕ, arith}
use Rattle.node_threads.specs.proof.Sleepers.{IsAbove}
use Rattle.node_threads.proofs.ThreadSlotLists.{one_more}
use Rattle.node_threads.proofs.sleepers.Sleepers.some_at_hour.Goals as goal

pub loop-number-preserved : goal.loop-number-preserved
loop-number-preserved c =
    one_more (λ (k : ℕ). IsAbove c.args.course.now.bus.run c.args.course.now.bus.state c.args.self.now.hour k)
    c.loop-number.number c.loop-number.invariant
    (c.is_at_hour.ensures c.if-is_at_hour.false (omega arith))

pub returns : goal.returns
returns c = λ none k below least is. c.loop-number.invariant k (omega arith) least is
