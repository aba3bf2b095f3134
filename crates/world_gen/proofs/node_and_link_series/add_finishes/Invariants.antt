use Rattle.std.proofs.Common.{◌≡◌, ◌++◌}
use Rattle.world_gen.specs.proof.EventSeries.{finish_series, each_of}
use Rattle.world_gen.proofs.node_and_link_series.add_finishes.Given as goal

abbrev pub invariant-loop-node : goal.invariant-loop-node
invariant-loop-node l = l.all_series ≡ l.initial.all_series ++ each_of l.node (finish_series l.design l.rounds)
