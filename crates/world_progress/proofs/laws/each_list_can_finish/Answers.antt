use Rattle.world_progress.proofs.FinishedLists.{each_list_can_finish}
use Rattle.world_progress.proofs.laws.each_list_can_finish.Goals as goal

pub returns : goal.returns
returns c = λ run events rules within. each_list_can_finish run events rules within
