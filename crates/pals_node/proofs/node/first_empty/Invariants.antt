use Rattle.std.proofs.Common.{◌≡◌, List, drop}
use Rattle.std.specs.Prelude.{Option, zip}
use Rattle.std.specs.List.{position_from}
use Rattle.pals_base.specs.declared.basic_types.PortValue.{PortValue}
use Rattle.bus_machine.specs.declared.plan.Input.{Input}
use Rattle.bus_machine.specs.NodeEvents.{lacks}
use Rattle.pals_node.proofs.node.first_empty.Given as goal

-- the first place is among the remaining ones
abbrev pub invariant-loop-at : goal.invariant-loop-at
invariant-loop-at l =
    position_from (λ (p : Input × Option (List PortValue)). lacks p.0 p.1) l.at
    (zip (drop l.at l.inputs) (drop l.at l.slots))
    ≡ position_from (λ (p : Input × Option (List PortValue)). lacks p.0 p.1) 0 (zip l.inputs l.slots)
