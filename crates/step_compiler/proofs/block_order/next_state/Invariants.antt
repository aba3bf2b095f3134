use Rattle.std.proofs.Common.{◌≡◌, ◌-◌, length}
use Rattle.std.specs.Prelude.{find}
use Rattle.pals_base.specs.UpwardNumbers.{upwards}
use Rattle.step_compiler.specs.proof.BlockOrder.{may_follow, next_state}
use Rattle.step_compiler.proofs.block_order.next_state.Given as goal

abbrev pub invariant-loop-state : goal.invariant-loop-state
invariant-loop-state l =
    find (may_follow l.behaviour l.order) (upwards l.state (length l.behaviour.states - l.state))
    ≡ next_state l.behaviour l.order
