use Rattle.std.proofs.Common.{◌≡◌, List, map, take}
use Rattle.std.specs.Prelude.{Option, zip, slice_index_or}
use Rattle.pals_base.specs.declared.basic_types.PortValue.{PortValue}
use Rattle.pals_base.specs.declared.basic_types.PortValue.TheVariants.{Absent}
use Rattle.bus_machine.specs.declared.plan.Input.{Input}
use Rattle.bus_machine.specs.Nodes.{brought}
use Rattle.pals_node.proofs.slots_and_input_vectors.vector_at.Given as goal

-- what the first ports have
abbrev pub invariant-loop-at : goal.invariant-loop-at
invariant-loop-at l =
    l.vector ≡ map (λ (p : Input × Option (List PortValue)).
    slice_index_or (brought l.plan.rate l.env p.0 p.1) l.step Absent)
    (zip (take l.at l.plan.inputs) (take l.at l.slots))
