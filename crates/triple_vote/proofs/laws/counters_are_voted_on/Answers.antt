use Rattle.triple_vote.proofs.CounterVotes.{one_liar_is_outvoted, two_liars_are_not, one_liar_text, two_liars_text}
use Rattle.triple_vote.proofs.laws.counters_are_voted_on.Goals as goal

pub returns : goal.returns
returns c =
    record { one = one_liar_is_outvoted; two = two_liars_are_not; one_text = one_liar_text; two_text = two_liars_text }
