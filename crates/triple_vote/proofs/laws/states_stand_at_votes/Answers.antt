use Rattle.triple_vote.proofs.VotedStates.{stands_at_votes, shows_votes}
use Rattle.triple_vote.proofs.laws.states_stand_at_votes.Goals as goal

pub returns : goal.returns
returns c = record { stands = stands_at_votes; shown = shows_votes }
