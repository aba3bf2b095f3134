use Rattle.std.proofs.Common.{◌≡◌, fold, max}
use Rattle.loose_world.proofs.RowLoops.{finished_first}
use Rattle.loose_world.proofs.row_text.finished_rounds.Given as goal

-- the most of the first nodes
abbrev pub invariant-loop-node : goal.invariant-loop-node
invariant-loop-node l = l.rounds ≡ fold max 0 (finished_first l.bus l.node)
