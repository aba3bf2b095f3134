use Rattle.std.proofs.Common.{◌≡◌, map, take}
use Rattle.pals_model.specs.declared.design.Component.{Component}
use Rattle.pals_bus.specs.proof.LinksFromNodes.{no_numbers}
use Rattle.pals_bus.proofs.outgoing_links.empty_lists.Given as goal

-- the list of each component so far is empty
abbrev pub invariant-loop-component : goal.invariant-loop-component
invariant-loop-component l = l.lists ≡ map (λ (_ : Component). no_numbers) (take l._component-index l.components)
