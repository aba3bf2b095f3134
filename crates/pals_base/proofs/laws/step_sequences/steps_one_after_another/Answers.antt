use Rattle.pals_base.proofs.SequencesAndHaltedFrames.{outputs-take, frame_after-append, outputs-append}
use Rattle.pals_base.proofs.laws.step_sequences.steps_one_after_another.Goals as goal

pub returns-clause-first : goal.returns-clause-first
returns-clause-first c = outputs-take

pub returns-clause-later_frame : goal.returns-clause-later_frame
returns-clause-later_frame c = frame_after-append

pub returns-clause-later_outputs : goal.returns-clause-later_outputs
returns-clause-later_outputs c = outputs-append
