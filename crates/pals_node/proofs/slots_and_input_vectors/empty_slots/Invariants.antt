use Rattle.std.proofs.Common.{◌≡◌, map, take}
use Rattle.bus_machine.specs.declared.plan.Input.{Input}
use Rattle.pals_node.proofs.TuplesSlotsAndZips.{no_message}
use Rattle.pals_node.proofs.slots_and_input_vectors.empty_slots.Given as goal

abbrev pub invariant-loop-input : goal.invariant-loop-input
invariant-loop-input l = l.slots ≡ map (λ (_ : Input). no_message) (take l._input-index l.inputs)
