use Rattle.pals_model.proofs.RoundsKeepKinds.{messages_fit, parts_fit, states_fit}
use Rattle.pals_model.proofs.laws.kinds.rounds_keep_kinds.Goals as goal

pub returns : goal.returns
returns c = record { states = states_fit; messages = messages_fit; parts = parts_fit }
