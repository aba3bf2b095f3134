use Rattle.pals_model.proofs.PartialRounds.{places_stay, trap_is_silent}
use Rattle.pals_model.proofs.laws.partial_rounds.trap_leaves_earlier_places.Goals as goal

pub returns : goal.returns
returns c = record { stay = places_stay; silent = trap_is_silent }
