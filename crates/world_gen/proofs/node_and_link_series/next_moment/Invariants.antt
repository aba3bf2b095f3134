use Rattle.std.proofs.Common.{◌≡◌, take}
use Rattle.world_gen.specs.proof.EventSeries.{next_moment}
use Rattle.world_gen.proofs.node_and_link_series.next_moment.Given as goal

abbrev pub invariant-loop-series : goal.invariant-loop-series
invariant-loop-series l = l.moment ≡ next_moment (take l.series-index l.all_series) l.from
