use Rattle.loose_world.proofs.JournalReplays.{journal_replays}
use Rattle.loose_world.proofs.world_laws.journals_are_replayed.Goals as goal

pub returns : goal.returns
returns c = journal_replays
