use Rattle.input_adaptors.proofs.TupleLengthsAndGroups.{All-groups, flat_map-groups}
use Rattle.input_adaptors.proofs.laws.groups_are_equal.Goals as goal

pub returns-clause-equal : goal.returns-clause-equal
returns-clause-equal c = All-groups

pub returns-clause-whole : goal.returns-clause-whole
returns-clause-whole c = flat_map-groups
