-- The numbers of the component and the link that have a name in a design, or that nothing has it.
use Rattle.std.specs.Prelude.{ℕ, bytes_eq, List, position, Result}
use Rattle.pals_base.specs.declared.basic_types.NodeNo.{NodeNo}
use Rattle.pals_base.specs.declared.basic_types.LinkNo.{LinkNo}
use Rattle.pals_model.specs.declared.design.DesignParts.{DesignParts}
use Rattle.pals_model.specs.ComponentInputs.{root_inputs}
use Rattle.pals_model.specs.ComponentAndLinkNames.{node_named, link_named}
use Rattle.scenario_values.specs.declared.fault.ScenarioFault.{ScenarioFault}
use Rattle.scenario_values.specs.declared.fault.ScenarioFault.TheVariants.{Unknown}
use Rattle.scenario_values.specs.ResultCombinators.{given}

abbrev pub node_no : ℕ → NodeNo
node_no n = record { 0 = n }

abbrev pub link_no : ℕ → LinkNo
link_no n = record { 0 = n }

unfoldable pub node_at : List ℕ → DesignParts → List ℕ → Result ℕ ScenarioFault
node_at place design path = given (Unknown place) (node_named design path)

unfoldable pub link_at : List ℕ → DesignParts → List ℕ → Result ℕ ScenarioFault
link_at place design name = given (Unknown place) (link_named design name)

unfoldable pub root_at : List ℕ → DesignParts → List ℕ → Result ℕ ScenarioFault
root_at place design name = given (Unknown place) (position (bytes_eq name) (root_inputs design))
