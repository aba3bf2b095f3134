use Rattle.std.proofs.Common.{rules}
use Rattle.pals_top.proofs.watch.answer_watch.Goals as goal

pub returns : goal.returns
returns c = search rules
