use Rattle.std.proofs.Common.{rules}
use Rattle.pals_top.proofs.sync.SyncCommandScenarioCommand.answer.Goals as goal

pub returns : goal.returns
returns c = search rules
