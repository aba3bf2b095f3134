use Rattle.step_code.proofs.InnermostLoops.{start_of}
use Rattle.step_code.proofs.LoopCrossings.{LooksOn}
use Rattle.step_code.proofs.instruction_rules.misses_loop_slot.Given as goal

abbrev pub invariant-loop-round : goal.invariant-loop-round
invariant-loop-round l = LooksOn l.parts.instrs l.place l.slot l.round

abbrev pub decreases-loop-round : goal.decreases-loop-round
decreases-loop-round l = start_of l.round
