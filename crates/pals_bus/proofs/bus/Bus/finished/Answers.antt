use Rattle.std.proofs.Common.{◌≡◌, ◌∙◌, ◌<◌, length, ap, subst, arith}
use Rattle.std.specs.Arc.{arc_value}
use Rattle.bus_machine.specs.Nodes.{NodeState}
use Rattle.pals_bus.specs.proof.BusInvariant.{value_of}
use Rattle.pals_bus.specs.BusValues.{BusValue}
use Rattle.pals_bus.proofs.InvariantConsequences.{parts_few, state_is}
use Rattle.pals_bus.proofs.bus.Bus.finished.Goals as goal

pub overflow_cast-result : goal.overflow_cast-result
overflow_cast-result c =
    let f = c.self.inside.fields in
    let node = c.args.node.0 in
    let shows : c.args.self.now ≡ value_of f = cc in
    let within : node < length (arc_value f.design).components =
    subst (λ (b : BusValue). node < length b.run.design.components) shows c.requires in
    let few = parts_few f node c.self.invariant within in
    let is =
    ap length (c.parts.ensures
    ∙ ap (λ (s : NodeState). s.parts)
    (state_is f node c.index.result.now c.self.invariant within c.index.ensures)) in
    omega (arith, few, is)
