use Rattle.std.proofs.Common.{◌≡◌, ◌++◌, map, drop}
use Rattle.bus_machine.specs.Plans.{input_of}
use Rattle.pals_node.proofs.plan.inputs_of.Given as goal

-- the inputs so far, and the inputs of the remaining sources
abbrev pub invariant-loop-source : goal.invariant-loop-source
invariant-loop-source l =
    l.inputs ++ map (input_of l.design) (drop l.source-index l.source-items) ≡ map (input_of l.design) l.source-items
