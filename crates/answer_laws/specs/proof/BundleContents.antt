-- What a bundle has: a text of the grammar, a design, a scenario, and what commands make of these.
use Rattle.std.specs.Prelude.{ℕ, ◌<◌, List, length}
use Rattle.pals_base.specs.declared.limits.TheConstants.{INSTRUCTIONS}
use Rattle.pals_model.specs.declared.design.DesignParts.{DesignParts}
use Rattle.pals_runs.specs.declared.commands.Command.{Command}
use Rattle.aadl_tree.specs.Declarations.{PackageTree}
use Rattle.scenario_json.specs.declared.scenario.Scenario.{Scenario}
use Rattle.design_codes.specs.OverlongCodes.{length_of, AreShort}
use Rattle.bundle_designs.specs.ParsedBundles.{IsParsed}
use Rattle.bundle_designs.specs.AcceptedAndRefusedPackages.{IsAccepted}
use Rattle.pals_top.specs.ExecutionCommands.{Execution}
use Rattle.pals_top.specs.BundleScenarios.{HasScenario}
use Rattle.pals_top.specs.ExecutionAnswers.{command_of, Makes}

-- A line divides it, and the design text before that line has a tree.
pub record HasTree (bundle : List ℕ) : Type 0 where
  pub text : List ℕ
  pub scenario : List ℕ
  pub tree : PackageTree ℕ
  pub parsed : IsParsed bundle text scenario tree

-- The package of its design text has a design below the root.
abbrev pub MeansDesign : List ℕ → List ℕ → Type 0
MeansDesign root bundle = (design : DesignParts) × (scenario : List ℕ) × IsAccepted root bundle design scenario

-- The bundle has such a design, and the text after the design is a scenario for it.
abbrev pub MeansScenario : List ℕ → List ℕ → Command → Type 0
MeansScenario root bundle command =
    (design : DesignParts) × (scenario : Scenario) × HasScenario root bundle command design scenario

-- ---- what commands need further that need step codes
-- It has such a design, with a component whose step code would be too long.
pub record HasLongCode (root bundle : List ℕ) : Type 0 where
  pub design : DesignParts
  pub scenario : List ℕ
  pub accepted : IsAccepted root bundle design scenario
  pub node : ℕ
  pub within : node < length design.components
  pub long : INSTRUCTIONS < length_of design node

-- It has such a design, with no component whose step code would be too long, and no scenario for it.
abbrev pub LacksScenario : Execution → List ℕ → List ℕ → Type 0
LacksScenario what root bundle =
    MeansDesign root bundle × (HasLongCode root bundle → ⊥) × (MeansScenario root bundle (command_of what root) → ⊥)

-- It has such a scenario, no step code is too long, and of these the command makes an answer of this status.
pub record GivesStatus (what : Execution) (root bundle : List ℕ) (status : ℕ) : Type 0 where
  pub design : DesignParts
  pub scenario : Scenario
  pub means : HasScenario root bundle (command_of what root) design scenario
  pub short : AreShort design
  pub text : List ℕ
  pub makes : Makes what design scenario status text
