use Rattle.pals_model.proofs.PartialRounds.{round_begins, round_goes_on, round_ends}
use Rattle.pals_model.proofs.laws.partial_rounds.round_goes_step_by_step.Goals as goal

pub returns : goal.returns
returns c = record { begins = round_begins; goes_on = round_goes_on; ends = round_ends }
