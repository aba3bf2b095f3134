use Rattle.std.proofs.Common.{◌≡◌}
use Rattle.loose_world.proofs.RowLoops.{least_first}
use Rattle.loose_world.proofs.row_text.finished_by_all.Given as goal

-- the minimum over the first nodes and the run's rounds
abbrev pub invariant-loop-node : goal.invariant-loop-node
invariant-loop-node l = l.rounds ≡ least_first l.bus l.node
