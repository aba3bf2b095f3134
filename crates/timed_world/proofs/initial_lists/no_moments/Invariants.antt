use Rattle.std.proofs.Common.{◌≡◌, map, take}
use Rattle.pals_model.specs.declared.design.Component.{Component}
use Rattle.run_laws.proofs.OpeningWorlds.{no_moments}
use Rattle.timed_world.proofs.initial_lists.no_moments.Given as goal

abbrev pub invariant-loop-component : goal.invariant-loop-component
invariant-loop-component l = l.lists ≡ map (λ (_ : Component). no_moments) (take l._component-index l._component-items)
