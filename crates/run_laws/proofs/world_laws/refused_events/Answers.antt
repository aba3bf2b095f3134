use Rattle.run_laws.proofs.TwoCounterWorlds.{events_are_refused, arrives_too_soon}
use Rattle.run_laws.proofs.world_laws.refused_events.Goals as goal

pub returns : goal.returns
returns c = record { table = events_are_refused; too_soon = arrives_too_soon }
