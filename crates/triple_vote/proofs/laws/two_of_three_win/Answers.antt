use Rattle.triple_vote.proofs.MajorityVotes.{two_of_three_win}
use Rattle.triple_vote.proofs.laws.two_of_three_win.Goals as goal

pub returns : goal.returns
returns c = two_of_three_win
