use Rattle.loose_world.proofs.EventsAsSteps.{events_are_steps}
use Rattle.loose_world.proofs.world_laws.events_are_steps.Goals as goal

pub returns : goal.returns
returns c = events_are_steps
