use Rattle.plant_fuse.proofs.LastRoundOfSolution.{rounds_go_on}
use Rattle.plant_fuse.proofs.RoundUniqueness.{round_is_one}
use Rattle.plant_fuse.proofs.IteratedRounds.{rounds_follow}
use Rattle.plant_fuse.proofs.laws.rounds_go_on.Goals as goal

pub returns : goal.returns
returns c = record { onward = rounds_go_on; one = round_is_one; follow = rounds_follow }
