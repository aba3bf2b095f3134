-- The premises from which a command other than `run` has one answer: the laws of lower crates, for analyses and for
-- commands that need step codes.
use Rattle.std.specs.Prelude.{◌≡◌, ℕ, List}
use Rattle.pals_model.specs.declared.design.DesignParts.{DesignParts}
use Rattle.pals_model.specs.DesignRules.{IsDesign}
use Rattle.aadl_tree.specs.Declarations.{PackageTree}
use Rattle.aadl_tree.specs.TextTreesAndFaults.{IsTreeOf}
use Rattle.aadl_names.specs.declared.fault.PackageFault.{PackageFault}
use Rattle.aadl_instance.specs.Faults.{IsFault}
use Rattle.design_laws.specs.PackageDesigns.{IsDesignIn}
use Rattle.loose_world.specs.proof.UniqueEnds.{OneEnd}
use Rattle.round_budget.specs.proof.BudgetLaws.{TextIsOne, VerdictIsOne}
use Rattle.plant_fuse.specs.proof.FusedLaws.{ReportIsOne}
use Rattle.scenario_laws.specs.proof.FusiblePairs.{PairsCanBeFused}
use Rattle.bundle_designs.specs.AcceptedAndRefusedPackages.{IsAccepted}

-- a package has one design at most below a root
abbrev pub OneDesign : Type 0
OneDesign =
    (tree : PackageTree ℕ) (root : List ℕ) (a b : DesignParts) → IsDesignIn tree root a → IsDesignIn tree root b → a ≡ b

-- the package of a text has one first fault at most
abbrev pub OneFault : Type 0
OneFault =
    (text : List ℕ) (tree : PackageTree ℕ) (root : List ℕ) (f g : PackageFault)
    → IsTreeOf text tree → IsFault tree root f → IsFault tree root g → f ≡ g

-- the design that a bundle means keeps the rules of designs
abbrev pub KeepsRules : Type 0
KeepsRules =
    (root bundle : List ℕ) (design : DesignParts) (scenario : List ℕ) → IsAccepted root bundle design scenario
    → IsDesign design

-- what a command makes that needs no step codes is one: there is one report of a fused composition, of designs that
-- keep the rules and pairs that can be fused
pub record AnalysisPremises : Type 0 where
  pub rules : KeepsRules
  pub pairs : PairsCanBeFused
  pub one_report : ReportIsOne

-- what a command that needs step codes makes is one: a list of loose events has one end, and there is one text of
-- round budgets
pub record ExecutionPremises : Type 0 where
  pub one_end : OneEnd
  pub one_text : TextIsOne
  pub one_verdict : VerdictIsOne
