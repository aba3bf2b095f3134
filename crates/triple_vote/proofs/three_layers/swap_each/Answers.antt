use Rattle.std.proofs.Common.{refl, arith}
use Rattle.triple_vote.proofs.ThreeLayerUpdates.{turned_more, turned_all}
use Rattle.triple_vote.proofs.three_layers.swap_each.Goals as goal

pub loop-at-init : goal.loop-at-init
loop-at-init c = record { size = refl; done = λ k d below inside. absurd (omega arith); rest = λ k d above. refl }

pub loop-at-preserved : goal.loop-at-preserved
loop-at-preserved c =
    turned_more c.args.layers.now.items c.loop-at.layers.items c.loop-at.at c.index_mut.result.now c.turn.new.self
    c.loop-at.invariant
    (omega (arith, c.loop-at.layers.ok.0, c.loop-at-test.true)) c.index_mut.ensures.value c.turn.ensures

pub returns : goal.returns
returns c =
    turned_all c.args.layers.now.items c.loop-at.layers.items c.loop-at.at
    (omega (arith, c.loop-at.layers.ok.0, c.loop-at.invariant.size, c.loop-at-test.false)) c.loop-at.invariant
