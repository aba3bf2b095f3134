use Rattle.run_laws.proofs.KeptWorldInvariant.{lists_go_right}
use Rattle.run_laws.proofs.world_laws.lists_go_right.Goals as goal

pub returns : goal.returns
returns c = lists_go_right
