use Rattle.timely_worlds.proofs.ListsOnTime.{lists_on_time}
use Rattle.timely_worlds.proofs.ServedSteps.{steps_meet_bounds}
use Rattle.timely_worlds.proofs.laws.processors_that_fit_keep_bounds.Goals as goal

pub returns : goal.returns
returns c = λ run codes times events rules served sends messages on_time.
    lists_on_time run times rules
    (record { steps = steps_meet_bounds run codes times rules served; sends = sends; messages = messages })
    events on_time
