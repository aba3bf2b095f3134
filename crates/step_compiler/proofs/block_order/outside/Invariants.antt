use Rattle.std.proofs.Common.{◌≡◌}
use Rattle.step_compiler.specs.proof.BlockOrder.{states_outside}
use Rattle.step_compiler.proofs.block_order.outside.Given as goal

abbrev pub invariant-loop-state : goal.invariant-loop-state
invariant-loop-state l = l.marks.items ≡ states_outside l.order l.state
