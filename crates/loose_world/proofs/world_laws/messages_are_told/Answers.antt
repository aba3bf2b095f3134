use Rattle.loose_world.proofs.SentCopies.{sends_are_in_flight}
use Rattle.loose_world.proofs.ToldLines.{lines_are_told}
use Rattle.loose_world.proofs.world_laws.messages_are_told.Goals as goal

pub returns : goal.returns
returns c = record { in_flight = sends_are_in_flight; lines = lines_are_told }
