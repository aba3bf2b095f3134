use Rattle.kind_laws.proofs.VotedKinds.{voted_fit, shown_fit}
use Rattle.kind_laws.proofs.laws.votes_keep_kinds.Goals as goal

pub returns : goal.returns
returns c = record { rounds = voted_fit; shown = shown_fit }
