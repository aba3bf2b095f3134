use Rattle.timely_worlds.proofs.ListsOnTime.{lists_on_time}
use Rattle.timely_worlds.proofs.laws.lists_on_time_are_within.Goals as goal

pub returns : goal.returns
returns c = λ run times events rules bounds on_time. lists_on_time run times rules bounds events on_time
