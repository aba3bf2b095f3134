use Rattle.std.proofs.Common.{◌≡◌, length}
use Rattle.std.specs.Prelude.{List, Option}
use Rattle.step_code.specs.declared.instr.Instr.{Instr}
use Rattle.step_code.specs.declared.loops.LoopSpan.{LoopSpan}
use Rattle.step_code.specs.proof.InnermostLoops.{AreInnermost}
use Rattle.step_code.proofs.loops.innermost.Given as goal
use Prim.Native.Nat.{ℕ}

pub record Progress (code : List Instr) (found : List (Option LoopSpan)) (place : ℕ) : Type 0 where
  pub each : AreInnermost code found
  pub count : length found ≡ place

abbrev pub invariant-loop-place : goal.invariant-loop-place
invariant-loop-place l = Progress l.instrs l.found.items l._place
