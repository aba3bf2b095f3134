use Rattle.plant_fuse.proofs.CounterPlant.{counters_are_pairs, counters_fuse, fused_counters_count}
use Rattle.plant_fuse.proofs.laws.counters_are_fused.Goals as goal

pub returns : goal.returns
returns c = record { pairs = counters_are_pairs; solution = counters_fuse; counted = fused_counters_count }
