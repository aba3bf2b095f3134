-- The behaviours of a design.
use Rattle.std.specs.Prelude.{List, map}
use Rattle.pals_base.specs.declared.behaviour.BehaviourParts.{BehaviourParts}
use Rattle.pals_model.specs.declared.design.Component.{Component}
use Rattle.pals_model.specs.declared.design.DesignParts.{DesignParts}

abbrev pub behaviours : DesignParts → List BehaviourParts
behaviours design = map (λ (c : Component). c.behaviour) design.components
