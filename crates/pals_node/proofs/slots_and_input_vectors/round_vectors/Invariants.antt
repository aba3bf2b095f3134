use Rattle.std.proofs.Common.{◌≡◌, List, map}
use Rattle.std.specs.Prelude.{Option, zip}
use Rattle.pals_base.specs.declared.basic_types.PortValue.{PortValue}
use Rattle.pals_base.specs.Tuples.{column}
use Rattle.pals_base.specs.UpwardNumbers.{upwards}
use Rattle.bus_machine.specs.declared.plan.Input.{Input}
use Rattle.bus_machine.specs.Nodes.{brought}
use Rattle.pals_node.proofs.slots_and_input_vectors.round_vectors.Given as goal

-- the vectors so far
abbrev pub invariant-loop-step : goal.invariant-loop-step
invariant-loop-step l =
    l.vectors ≡ map (λ at. column at
    (map (λ (p : Input × Option (List PortValue)). brought l.plan.rate l.env p.0 p.1) (zip l.plan.inputs l.slots)))
    (upwards 0 l.step)
