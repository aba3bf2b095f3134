use Rattle.std.proofs.Common.{◌≡◌, length}
use Rattle.std.specs.Prelude.{ℕ, List}
use Rattle.step_code.specs.declared.instr.Instr.{Instr}
use Rattle.step_code.specs.CappedWeights.{AreWeights}
use Rattle.step_code.proofs.weights.weights.Given as goal

pub record Progress (code : List Instr) (weights : List ℕ) (place : ℕ) : Type 0 where
  pub each : AreWeights code weights
  pub count : length weights ≡ place

abbrev pub invariant-loop-place : goal.invariant-loop-place
invariant-loop-place l = Progress l.parts.instrs l.weights.items l.place
