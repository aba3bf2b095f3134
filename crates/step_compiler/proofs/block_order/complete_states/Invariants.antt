use Rattle.std.proofs.Common.{◌≡◌}
use Rattle.std.specs.Prelude.{filter}
use Rattle.pals_base.specs.SingleStep.{is_complete}
use Rattle.pals_base.specs.UpwardNumbers.{upwards}
use Rattle.step_compiler.proofs.block_order.complete_states.Given as goal

abbrev pub invariant-loop-state : goal.invariant-loop-state
invariant-loop-state l = l.complete.items ≡ filter (is_complete l.behaviour) (upwards 0 l.state)
