use Rattle.std.proofs.Common.{rules}
use Rattle.pals_top.proofs.audit.judged.Goals as goal

pub returns : goal.returns
returns c = search rules
