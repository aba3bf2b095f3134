use Rattle.loose_world.proofs.FinishedAndSentRounds.{rounds_are_finished, rounds_are_sent}
use Rattle.loose_world.proofs.BusAfterEvents.{events_replay}
use Rattle.loose_world.proofs.world_laws.events_are_counted.Goals as goal

pub returns : goal.returns
returns c = record { replay = events_replay; finished = rounds_are_finished; sent = rounds_are_sent }
