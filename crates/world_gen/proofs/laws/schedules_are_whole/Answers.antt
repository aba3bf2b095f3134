use Rattle.world_gen.proofs.ExactlyOneSchedule.{moments_exist, moments_are_one}
use Rattle.world_gen.proofs.WholeSchedules.{schedules_are_whole}
use Rattle.world_gen.proofs.laws.schedules_are_whole.Goals as goal

pub returns : goal.returns
returns c = record { exist = moments_exist; one = moments_are_one; whole = schedules_are_whole }
