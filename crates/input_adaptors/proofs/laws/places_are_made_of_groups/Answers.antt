use Rattle.input_adaptors.proofs.TupleLengthsAndGroups.{slice_get-adapt}
use Rattle.input_adaptors.proofs.laws.places_are_made_of_groups.Goals as goal

pub returns : goal.returns
returns c = slice_get-adapt
