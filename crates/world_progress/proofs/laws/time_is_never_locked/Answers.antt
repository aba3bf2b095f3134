use Rattle.world_progress.proofs.WorldProgress.{lists_can_go_on}
use Rattle.world_progress.proofs.laws.time_is_never_locked.Goals as goal

pub returns : goal.returns
returns c = λ run events rules within. lists_can_go_on run events rules within
