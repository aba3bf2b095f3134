use Rattle.input_adaptors.proofs.TupleLengthsAndGroups.{length-adapt}
use Rattle.input_adaptors.proofs.laws.allowed_adaptors_meet_the_rate.Goals as goal

pub returns : goal.returns
returns c = length-adapt
