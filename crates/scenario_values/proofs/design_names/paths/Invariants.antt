use Rattle.std.proofs.Common.{◌≡◌, map, take, string_bytes}
use Rattle.pals_model.specs.declared.design.Component.{Component}
use Rattle.scenario_values.proofs.design_names.paths.Given as goal

abbrev pub invariant-loop-component : goal.invariant-loop-component
invariant-loop-component l =
    map string_bytes l.names.items ≡ map (λ (c : Component). c.path) (take l.component-index l.components)
