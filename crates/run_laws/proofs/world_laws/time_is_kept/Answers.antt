use Rattle.run_laws.proofs.OpeningWorlds.{opening_keeps_time}
use Rattle.run_laws.proofs.KeptWorldInvariant.{event_keeps_time}
use Rattle.run_laws.proofs.world_laws.time_is_kept.Goals as goal

pub returns : goal.returns
returns c = record { opening = opening_keeps_time; event = event_keeps_time }
