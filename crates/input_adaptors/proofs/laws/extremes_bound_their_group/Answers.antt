use Rattle.input_adaptors.proofs.Extremes.{IsLeast-joined, IsGreatest-joined}
use Rattle.input_adaptors.proofs.laws.extremes_bound_their_group.Goals as goal

pub returns-clause-least : goal.returns-clause-least
returns-clause-least c = IsLeast-joined

pub returns-clause-greatest : goal.returns-clause-greatest
returns-clause-greatest c = IsGreatest-joined
