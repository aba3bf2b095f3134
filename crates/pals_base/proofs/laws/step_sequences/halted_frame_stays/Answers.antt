use Rattle.pals_base.proofs.SequencesAndHaltedFrames.{fire-halted, frame_after-halted, outputs-halted}
use Rattle.pals_base.proofs.laws.step_sequences.halted_frame_stays.Goals as goal

pub returns-clause-frame : goal.returns-clause-frame
returns-clause-frame c = frame_after-halted

pub returns-clause-outputs : goal.returns-clause-outputs
returns-clause-outputs c = outputs-halted

pub returns-clause-step : goal.returns-clause-step
returns-clause-step c = fire-halted
