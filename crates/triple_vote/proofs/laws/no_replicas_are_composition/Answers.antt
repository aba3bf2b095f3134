use Rattle.triple_vote.proofs.CompositionAgreement.{no_replicas_are_composition}
use Rattle.triple_vote.proofs.laws.no_replicas_are_composition.Goals as goal

pub returns : goal.returns
returns c = no_replicas_are_composition
