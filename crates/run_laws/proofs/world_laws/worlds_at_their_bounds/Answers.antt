use Rattle.run_laws.proofs.TwoCounterWorlds.{earliest, latest}
use Rattle.run_laws.proofs.world_laws.worlds_at_their_bounds.Goals as goal

pub returns : goal.returns
returns c = record { earliest = earliest; latest = latest }
