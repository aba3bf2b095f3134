-- What `check` answers to a bundle.
use Rattle.std.specs.Prelude.{◌≡◌, ℕ, List, ◌⊎◌}
use Rattle.pals_model.specs.declared.design.DesignParts.{DesignParts}
use Rattle.pals_report.specs.CheckReports.{IsCheckReport}
use Rattle.bundle_designs.specs.AcceptedAndRefusedPackages.{IsAccepted}
use Rattle.pals_top.specs.declared.status.TheConstants.{DONE}
use Rattle.pals_top.specs.RefusalAnswers.{IsBundleRefused}

-- the report of the design that the bundle means
pub record IsChecked (root bundle text : List ℕ) : Type 0 where
  pub design : DesignParts
  pub scenario : List ℕ
  pub accepted : IsAccepted root bundle design scenario
  pub report : IsCheckReport design text

abbrev pub IsCheckAnswer : List ℕ → List ℕ → ℕ → List ℕ → Type 0
IsCheckAnswer root bundle status text =
    ((status ≡ DONE) × IsChecked root bundle text) ⊎ IsBundleRefused root bundle status text
