use Rattle.std.proofs.Common.{◌≡◌, drop}
use Rattle.step_compiler.specs.proof.BlockOrder.{is_placed}
use Rattle.step_compiler.proofs.block_order.is_placed.Given as goal

abbrev pub invariant-loop-placed : goal.invariant-loop-placed
invariant-loop-placed l = is_placed (drop l.placed-index l.order) l.state ≡ is_placed l.order l.state
