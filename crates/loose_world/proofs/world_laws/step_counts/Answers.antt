use Rattle.loose_world.proofs.StepAndSendCounts.{step_counts}
use Rattle.loose_world.proofs.world_laws.step_counts.Goals as goal

pub returns : goal.returns
returns c = step_counts
