use Rattle.triple_vote.proofs.VotesDespiteOneFault.{one_named_is_outvoted}
use Rattle.triple_vote.proofs.laws.one_named_is_outvoted.Goals as goal

pub returns : goal.returns
returns c = one_named_is_outvoted
