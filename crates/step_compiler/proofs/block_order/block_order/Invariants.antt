use Rattle.std.proofs.Common.{◌≡◌, ◌-◌, length}
use Rattle.step_compiler.specs.proof.BlockOrder.{ordered, block_order}
use Rattle.step_compiler.proofs.block_order.block_order.Given as goal

abbrev pub invariant-loop-round : goal.invariant-loop-round
invariant-loop-round l =
    ordered (length l.behaviour.states - l._round) l.behaviour l.order.items ≡ block_order l.behaviour
