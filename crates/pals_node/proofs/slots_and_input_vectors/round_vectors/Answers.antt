use Rattle.std.proofs.Common.{◌∙◌, ◌++◌, ◌∷◌, [], ℕ, List, map, sym, ap₂}
use Rattle.std.specs.Prelude.{Option, zip}
use Rattle.pals_base.specs.declared.basic_types.PortValue.{PortValue}
use Rattle.pals_base.specs.Tuples.{column}
use Rattle.pals_base.proofs.UpwardNumbers.{map_upwards_more}
use Rattle.bus_machine.specs.declared.plan.Input.{Input}
use Rattle.bus_machine.specs.Nodes.{brought}
use Rattle.pals_node.proofs.slots_and_input_vectors.round_vectors.Goals as goal

pub loop-step-preserved : goal.loop-step-preserved
loop-step-preserved c =
    let tuples =
    map (λ (p : Input × Option (List PortValue)). brought c.args.plan.now.rate c.args.env.now p.0 p.1)
    (zip c.args.plan.now.inputs c.args.slots.now) in
    c.in_ok-push.ensures.ok
    ∙ ap₂ (λ (vs : List (List PortValue)) (v : List PortValue). vs ++ v ∷ []) c.loop-step.invariant
    c.in_ok-vector_at.ensures
    ∙ sym (map_upwards_more (λ (at : ℕ). column at tuples) c.loop-step.step)
