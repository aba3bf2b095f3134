use Rattle.pals_model.specs.declared.design.Component.{Component}
use Rattle.bus_machine.specs.Plans.{no_component}
use Rattle.pals_bus.specs.proof.LinksFromNodes.{no_numbers}
use Rattle.pals_bus.proofs.Openings.{map_more}
use Rattle.pals_bus.proofs.outgoing_links.empty_lists.Goals as goal

pub loop-component-preserved : goal.loop-component-preserved
loop-component-preserved c =
    map_more (λ (_ : Component). no_numbers) c.args.components.now c.loop-component._component-index no_component
    c.loop-component.lists c.push.new.self c.new.result c.loop-component-test.true c.loop-component.invariant
    c.new.ensures c.in_ok-push.ensures.ok
