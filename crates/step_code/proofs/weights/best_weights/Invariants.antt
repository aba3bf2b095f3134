use Rattle.std.proofs.Common.{ℕ, ◌≤◌, List, length}
use Rattle.step_code.specs.declared.instr.Instr.{Instr}
use Rattle.step_code.specs.CappedWeights.{AreBest}
use Rattle.step_code.proofs.weights.best_weights.Given as goal

pub record Progress (code : List Instr) (best : List ℕ) (place : ℕ) : Type 0 where
  pub known : AreBest code place best
  pub below : place ≤ length code

abbrev pub invariant-loop-place : goal.invariant-loop-place
invariant-loop-place l = Progress l.parts.instrs l.best.items l.place

abbrev pub decreases-loop-place : goal.decreases-loop-place
decreases-loop-place l = l.place
