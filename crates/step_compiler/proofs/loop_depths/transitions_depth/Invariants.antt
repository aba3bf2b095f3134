use Rattle.std.proofs.Common.{◌≡◌, drop}
use Rattle.std.specs.Prelude.{max}
use Rattle.step_compiler.specs.LoopDepths.{depth_edges}
use Rattle.step_compiler.proofs.loop_depths.transitions_depth.Given as goal

abbrev pub invariant-loop-transition : goal.invariant-loop-transition
invariant-loop-transition l =
    max l.depth (depth_edges (drop l.transition-index l.transitions)) ≡ depth_edges l.transitions
