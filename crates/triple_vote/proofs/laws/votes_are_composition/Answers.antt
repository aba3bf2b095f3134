use Rattle.triple_vote.proofs.CompositionAgreement.{replicas_are_states, received_are_messages, taps_show_tuples}
use Rattle.triple_vote.proofs.laws.votes_are_composition.Goals as goal

pub returns : goal.returns
returns c = record { states = replicas_are_states; messages = received_are_messages; taps = taps_show_tuples }
