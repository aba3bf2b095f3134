use Rattle.triple_vote.proofs.ThreeLayerUpdates.{SwappedTo}
use Rattle.triple_vote.proofs.three_layers.swap_each.Given as goal

-- the first layers have gone over, and the others are as they were
abbrev pub invariant-loop-at : goal.invariant-loop-at
invariant-loop-at l = SwappedTo l.fn.layers.items l.layers.items l.at
