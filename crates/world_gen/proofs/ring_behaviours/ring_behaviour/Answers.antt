use Rattle.world_gen.proofs.RingBehaviourRules.{parts_behave}
use Rattle.world_gen.proofs.ring_behaviours.ring_behaviour.Goals as goal

pub new-requires : goal.new-requires
new-requires c =
    parts_behave c.in_ok-ports.field-0 c.in_ok-ports-2.field-0 c.in_ok-variables.field-0 c.in_ok-states.field-0
    c.in_ok-transitions.field-0
    c.in_ok-ports.ensures c.in_ok-ports-2.ensures c.in_ok-variables.ensures c.in_ok-states.ensures
    c.in_ok-transitions.ensures
