use Rattle.std.proofs.Common.{rules}
use Rattle.triple_vote.proofs.votes.vote.Goals as goal

pub returns-then-same_port-2 : goal.returns-then-same_port-2
returns-then-same_port-2 c = search rules
