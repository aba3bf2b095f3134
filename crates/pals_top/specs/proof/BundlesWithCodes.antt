-- That a bundle means a design, its step codes and a scenario, with its events and trace; or is rejected.
use Rattle.std.specs.Prelude.{ℕ, ◌≤◌, List, length, ◌⊎◌}
use Rattle.pals_base.specs.declared.limits.TheConstants.{LIST_ITEMS}
use Rattle.pals_model.specs.declared.design.DesignParts.{DesignParts}
use Rattle.pals_bus.specs.proof.StepCodesOfNodes.{AreCodes}
use Rattle.step_compiler.specs.LaidOutCode.{AreLaidOut}
use Rattle.design_codes.specs.OverlongCodes.{AreShort}
use Rattle.design_codes.specs.DesignBehaviours.{behaviours}
use Rattle.scenario_json.specs.declared.scenario.Scenario.{Scenario}
use Rattle.scenario_json.specs.proof.ScenarioValidity.{IsScenarioOf}
use Rattle.scenario_laws.specs.proof.LooseEvents.{AreLooseEvents}
use Rattle.pals_top.specs.declared.bundle_meaning.Coded.{Coded}
use Rattle.pals_top.specs.declared.bundle_meaning.BundleMeaning.{BundleMeaning}
use Rattle.pals_top.specs.ExecutionCommands.{Execution, TimedWorld, LooseWorld, Audit}
use Rattle.pals_top.specs.ExecutionAnswers.{command_of, IsCodeTooLong, IsScenarioRefusedIn}
use Rattle.pals_top.specs.RefusalAnswers.{IsBundleRefused}
use Rattle.pals_top.specs.BundleScenarios.{HasScenario}
use Rattle.pals_top.specs.proof.StatusAndText.{status_of, text_of}
use Rattle.pals_top.specs.declared.bundle_meaning.BundleMeaning.TheVariants as meaning

-- the additional parts of the scenario of each command
abbrev pub HasEvents : Execution → DesignParts → Scenario → Type 0
HasEvents TimedWorld design scenario = length scenario.events ≤ LIST_ITEMS
HasEvents LooseWorld design scenario = AreLooseEvents design scenario.events
HasEvents Audit design scenario = length scenario.trace ≤ LIST_ITEMS
HasEvents what design scenario = Unit {0}

-- the bundle means this design and this scenario, and these are the design's codes
pub record IsCoded (what : Execution) (root bundle : List ℕ) (coded : Coded) : Type 0 where
  pub means : HasScenario root bundle (command_of what root) coded.design coded.scenario
  pub codes : AreCodes coded.design coded.codes
  pub layout : AreLaidOut (behaviours coded.design) coded.codes
  pub short : AreShort coded.design
  pub kept : IsScenarioOf coded.design coded.scenario
  pub events : HasEvents what coded.design coded.scenario

-- the bundle has no design, a code is too long, or the scenario has a fault
abbrev pub IsRefused : Execution → List ℕ → List ℕ → ℕ → List ℕ → Type 0
IsRefused what root bundle status text =
    IsBundleRefused root bundle status text
    ⊎ IsCodeTooLong root bundle status text
    ⊎ IsScenarioRefusedIn root bundle (command_of what root) status text

abbrev pub IsMeaning : Execution → List ℕ → List ℕ → BundleMeaning → Type 0
IsMeaning what root bundle (meaning.Coded coded) = IsCoded what root bundle coded
IsMeaning what root bundle (meaning.Refused answer) = IsRefused what root bundle (status_of answer) (text_of answer)
