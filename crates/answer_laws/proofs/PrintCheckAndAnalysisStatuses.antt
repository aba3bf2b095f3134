-- The statuses of the answers of `print`, `check` and the analyses, by the contents of the bundle.
use Rattle.std.proofs.Common.{◌≡◌, inl, inr, ℕ, ◌<◌, List}
use Rattle.pals_top.specs.RefusalAnswers.{IsBundleRefused}
use Rattle.pals_top.specs.BundleScenarios.{HasScenarioFault}
use Rattle.pals_top.specs.Print.{IsPrintAnswer}
use Rattle.pals_top.specs.Check.{IsCheckAnswer}
use Rattle.pals_top.specs.AnalysisCommands.{Analysis}
use Rattle.pals_top.specs.AnalysisAnswers.{command_of, IsAnalysisAnswer}
use Rattle.answer_laws.specs.proof.BundleContents.{HasTree, MeansDesign, MeansScenario}
use Rattle.answer_laws.specs.proof.UniquenessPremises.{OneDesign}
use Rattle.answer_laws.proofs.UniqueBundleScenarios.{meant_or_refused}
use Rattle.answer_laws.proofs.ScenarioAnswerStatuses.{analysis_status}
use Rattle.answer_laws.proofs.StatusCases.{StatusCase}
use Rattle.answer_laws.proofs.BundleContents.{no_design, no_tree, refused_tree}

pub print_cases : (bundle : List ℕ) (s : ℕ) (a : List ℕ) → IsPrintAnswer bundle s a
    → StatusCase (λ n. n ≡ 0) s (HasTree bundle) (HasTree bundle) (HasTree bundle)
print_cases bundle s a (inl x) =
    inl (x.0, record { text = x.1.design; scenario = x.1.scenario; tree = x.1.tree; parsed = x.1.parsed })
print_cases bundle s a (inr x) = inr (inl (x.0, no_tree bundle a x.1))

refused_cases : (Done : ℕ → Type 0) (scenario : Type 0) (root bundle : List ℕ) (s : ℕ) (a : List ℕ)
    → IsBundleRefused root bundle s a
    → StatusCase Done s (HasTree bundle) (MeansDesign root bundle) scenario
refused_cases Done scenario root bundle s a (inl x) = inr (inl (x.0, no_tree bundle a x.1))
refused_cases Done scenario root bundle s a (inr x) =
    inr (inr (inl (x.0, refused_tree root bundle a x.1, no_design root bundle a x.1)))

pub check_cases : (root bundle : List ℕ) (s : ℕ) (a : List ℕ) → IsCheckAnswer root bundle s a
    → StatusCase (λ n. n ≡ 0) s (HasTree bundle) (MeansDesign root bundle) (MeansDesign root bundle)
check_cases root bundle s a (inl x) = inl (x.0, (x.1.design, x.1.scenario, x.1.accepted))
check_cases root bundle s a (inr x) = refused_cases (λ n. n ≡ 0) (MeansDesign root bundle) root bundle s a x

module _ (one_design : OneDesign) (what : Analysis) where
  no_scenario : (root bundle a : List ℕ) → HasScenarioFault root bundle (command_of what root) a
      → MeansScenario root bundle (command_of what root) → ⊥
  no_scenario root bundle a x h = meant_or_refused one_design root bundle (command_of what root) h.0 h.1 a h.2 x

  pub analysis_cases : (root bundle : List ℕ) (s : ℕ) (a : List ℕ) → IsAnalysisAnswer what root bundle s a
      → StatusCase (λ n. n < 2) s (HasTree bundle) (MeansDesign root bundle)
      (MeansScenario root bundle (command_of what root))
  analysis_cases root bundle s a (inl x) =
      refused_cases (λ n. n < 2) (MeansScenario root bundle (command_of what root)) root bundle s a x
  analysis_cases root bundle s a (inr (inl x)) =
      inr (inr (inr (x.0, (x.1.design, x.1.bytes, x.1.accepted), no_scenario root bundle a x.1)))
  analysis_cases root bundle s a (inr (inr x)) =
      inl (analysis_status what x.design x.scenario s a x.makes, (x.design, x.scenario, x.means))
