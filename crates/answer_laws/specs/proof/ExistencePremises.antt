-- The premises from which each bundle has an answer: the laws of lower crates.
use Rattle.std.specs.Prelude.{◌⊎◌, ◌≢◌, ℕ, List, []}
use Rattle.aadl_tree.specs.Declarations.{PackageTree}
use Rattle.aadl_tree.specs.proof.TreesOfSomeText.{IsGiven}
use Rattle.aadl_names.specs.declared.fault.PackageFault.{PackageFault}
use Rattle.aadl_names.specs.declared.fault.PackageFault.TheVariants.{Memory}
use Rattle.aadl_instance.specs.Faults.{IsFault}
use Rattle.aadl_instance.specs.InstancesByPaths.{InstanceParts, IsFlat}
use Rattle.model_violations.specs.Violations.{shown_by, AreViolations}
use Rattle.pals_model.specs.declared.design.DesignParts.{DesignParts}
use Rattle.pals_model.specs.DesignRules.{IsDesign}
use Rattle.design_laws.specs.PackageDesigns.{IsDesignIn}
use Rattle.pals_runs.specs.declared.commands.Command.{Command}
use Rattle.step_compiler.specs.proof.LayoutLaws.{HasLayout}
use Rattle.scenario_laws.specs.proof.EventAndTraceLimits.{EventsAreFew, TracesAreFew}
use Rattle.scenario_laws.specs.proof.LooseEvents.{EventsAreLoose}
use Rattle.aadl_grammar.specs.proof.TokensTreesAndFaults.{HasTree, HasLexFault, Stops, NestsTooDeep}
use Rattle.design_laws.specs.proof.FirstFaultOrInstance.{HasFirstFault, HasInstance, HasList}
use Rattle.scenario_laws.specs.proof.ScenarioOrFault.{HasScenario, HasFault}
use Rattle.scenario_laws.specs.proof.FusiblePairs.{PairsCanBeFused}
use Rattle.scenario_laws.specs.proof.ScenarioSuitability.{ScenariosSuit}
use Rattle.run_laws.specs.proof.RunTermination.{EachRunEnds, EndsAreNamed}
use Rattle.plant_fuse.specs.proof.FusedLaws.{ReportExists}

pub record ExistenceLaws : Type 0 where
  -- a text has a tree or a first fault
  pub tree_or_fault : (text : List ℕ) → HasTree text ⊎ HasLexFault text ⊎ Stops text ⊎ NestsTooDeep text
  -- a package has an instance, with a list of its violations, or a first fault
  pub instance_or_fault : (tree : PackageTree ℕ) (root : List ℕ) → HasFirstFault tree root ⊎ HasInstance tree root
  pub named : (tree : PackageTree ℕ) (root : List ℕ) (fault : PackageFault) → IsFault tree root fault → fault ≢ Memory
  pub list : (tree : PackageTree ℕ) (root : List ℕ) (parts : InstanceParts) → IsFlat tree root parts
      → HasList tree parts
  -- if there is no violation there is a design, which satisfies the rules of designs
  pub there : (tree : PackageTree ℕ) (root : List ℕ) (parts : InstanceParts) → IsGiven tree → IsFlat tree root parts
      → AreViolations tree (shown_by tree parts) [] → (design : DesignParts) × IsDesignIn tree root design
  pub rules : (tree : PackageTree ℕ) (root : List ℕ) (design : DesignParts) → IsGiven tree → IsDesignIn tree root design
      → IsDesign design
  -- bytes mean a scenario or have a first fault
  pub scenario_or_fault : (bytes : List ℕ) (design : DesignParts) (command : Command)
      → HasScenario bytes design command ⊎ HasFault bytes design command
  pub loose : EventsAreLoose
  pub few : EventsAreFew
  pub lines : TracesAreFew
  -- pairs that are read can be fused, and their fused composition has a report
  pub pairs : PairsCanBeFused
  pub fused : ReportExists
  -- a behaviour has a code
  pub layout : HasLayout
  -- a scenario suits its design, and a run of it reaches an end
  pub suit : ScenariosSuit
  pub ends : EachRunEnds
  pub ends_named : EndsAreNamed
