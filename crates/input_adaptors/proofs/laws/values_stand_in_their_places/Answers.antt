use Rattle.input_adaptors.proofs.SpreadValues.{slice_get-there, slice_get-absent}
use Rattle.input_adaptors.proofs.laws.values_stand_in_their_places.Goals as goal

pub returns-clause-there : goal.returns-clause-there
returns-clause-there c = slice_get-there

pub returns-clause-absent : goal.returns-clause-absent
returns-clause-absent c = slice_get-absent
