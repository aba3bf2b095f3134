use Rattle.std.proofs.Common.{◌≡◌, length, drop}
use Rattle.std.specs.Prelude.{fold, replicate, false}
use Rattle.step_compiler.specs.proof.BlockOrder.{with_target}
use Rattle.step_compiler.proofs.block_order.awaited.Given as goal

abbrev pub invariant-loop-transition : goal.invariant-loop-transition
invariant-loop-transition l =
    fold (with_target l.outside) l.marks.items (drop l.transition-index l.transitions)
    ≡ fold (with_target l.outside) (replicate (length l.outside) false) l.transitions
