use Rattle.std.proofs.Common.{◌≡◌, ◌++◌}
use Rattle.world_gen.specs.proof.EventSeries.{arrive_series, each_of}
use Rattle.world_gen.proofs.node_and_link_series.add_arrivals.Given as goal

abbrev pub invariant-loop-link : goal.invariant-loop-link
invariant-loop-link l = l.all_series ≡ l.initial.all_series ++ each_of l.link (arrive_series l.design l.rounds)
