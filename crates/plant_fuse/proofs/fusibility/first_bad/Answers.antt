use Rattle.std.proofs.Common.{below_more, arith}
use Rattle.plant_fuse.proofs.FusiblePairs.{pairs_by}
use Rattle.plant_fuse.proofs.fusibility.first_bad.Goals as goal

pub loop-index-preserved : goal.loop-index-preserved
loop-index-preserved c = below_more _ _ c.loop-index.invariant (c.can_be_fused.ensures.0 c.if-not-can_be_fused.false)

pub returns-clause-none : goal.returns-clause-none
returns-clause-none c = pairs_by c.args.design.now c.args.pairs.now (λ k within. c.loop-index.invariant k (omega arith))
