use Rattle.std.proofs.Common.{◌≡◌, map, take}
use Rattle.pals_model.specs.declared.design.Component.{Component}
use Rattle.run_laws.proofs.OpeningWorlds.{no_time}
use Rattle.timed_world.proofs.initial_lists.no_times.Given as goal

abbrev pub invariant-loop-component : goal.invariant-loop-component
invariant-loop-component l = l.times ≡ map (λ (_ : Component). no_time) (take l._component-index l._component-items)
