use Rattle.behaviour_parse.proofs.ParseResults.{end_last}
use Rattle.std.proofs.Common.{arith}
use Rattle.behaviour_parse.proofs.end_of.Goals as goal

pub returns : goal.returns
returns c = end_last c.args.tokens.now _ (omega arith)
