use Rattle.step_code.specs.proof.InnermostLoops.{ComesFrom}
use Rattle.step_code.proofs.InnermostLoops.{start_of}
use Rattle.step_code.proofs.loops.innermost_at.Given as goal

abbrev pub invariant-loop-candidate : goal.invariant-loop-candidate
invariant-loop-candidate l = ComesFrom l.instrs l.place l.candidate

abbrev pub decreases-loop-candidate : goal.decreases-loop-candidate
decreases-loop-candidate l = start_of l.candidate
