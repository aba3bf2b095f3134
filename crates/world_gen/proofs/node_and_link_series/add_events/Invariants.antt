use Rattle.std.proofs.Common.{◌≡◌, ◌++◌, take}
use Rattle.world_gen.specs.proof.EventSeries.{events_of}
use Rattle.world_gen.proofs.node_and_link_series.add_events.Given as goal

abbrev pub invariant-loop-series : goal.invariant-loop-series
invariant-loop-series l = l.events ≡ l.initial.events ++ events_of (take l.series-index l.all_series) l.moment
