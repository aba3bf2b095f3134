use Rattle.triple_vote.proofs.CounterVotes.{one_liar_is_fault, one_liar_is_allowed}
use Rattle.triple_vote.proofs.laws.one_liar_is_allowed.Goals as goal

pub returns : goal.returns
returns c = record { fault = one_liar_is_fault; allowed = one_liar_is_allowed }
