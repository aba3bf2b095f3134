use Rattle.bus_machine.proofs.MessageAndRunAgreement.{opening_agrees, step_keeps_agreement, replay_agrees}
use Rattle.bus_machine.proofs.laws.runs_agree.Goals as goal

pub returns : goal.returns
returns c = record { opening = opening_agrees; step = step_keeps_agreement; replay = replay_agrees }
