-- A command other than `run` has one answer to a bundle: one status and one text.
use Rattle.std.proofs.Common.{◌≡◌, ◌∙◌, inl, inr, ℕ, true, false, List, sym, ap, subst}
use Rattle.std.proofs.lemmas.Bool.{true≢false}
use Rattle.pals_model.specs.declared.design.DesignParts.{DesignParts}
use Rattle.pals_runs.specs.declared.commands.Command.{Command}
use Rattle.pals_runs.specs.declared.commands.Command.TheVariants.{Print, Check, Sync, World, Run, Audit, Watch, Vote}
use Rattle.pals_runs.specs.declared.commands.Command.TheVariants.{Fuse, Budget}
use Rattle.aadl_tree.specs.Declarations.{PackageTree}
use Rattle.aadl_tree.specs.CanonicalText.{canon}
use Rattle.pals_report.specs.CheckReports.{IsCheckReport}
use Rattle.scenario_json.specs.declared.scenario.Scenario.{Scenario}
use Rattle.pals_top.specs.RefusalAnswers.{IsBundleRefused}
use Rattle.pals_top.specs.BundleScenarios.{HasScenarioFault}
use Rattle.bundle_designs.specs.CanonicalTexts.{IsPrinted}
use Rattle.pals_top.specs.Print.{IsPrintAnswer}
use Rattle.pals_top.specs.Check.{IsChecked, IsCheckAnswer}
use Rattle.pals_top.specs.AnalysisCommands.{Analysis}
use Rattle.pals_top.specs.AnalysisCommands as analysis
use Rattle.pals_top.specs.ExecutionCommands.{Execution}
use Rattle.pals_top.specs.ExecutionCommands as execution
use Rattle.pals_top.specs.AnalysisAnswers.{command_of, Makes, IsAnalysed, IsAnalysisAnswer}
use Rattle.pals_top.specs.ExecutionAnswers.{command_of as execution_command, IsExecutionAnswer}
use Rattle.pals_top.specs.Answers.{IsCommandAnswer}
use Rattle.pals_top.specs.proof.FlaggedAndRunCommands.{is_run}
use Rattle.answer_laws.specs.proof.UniquenessPremises.{OneDesign, OneFault, AnalysisPremises, ExecutionPremises}
use Rattle.answer_laws.proofs.UniqueDesignsAndRefusals.{one_tree, read_or_refused, one_refused_text, one_accepted}
use Rattle.answer_laws.proofs.UniqueDesignsAndRefusals.{accepted_or_refused, package_or_text, one_refused_package}
use Rattle.answer_laws.proofs.UniqueCheckReports.{one_report}
use Rattle.answer_laws.proofs.UniqueBundleScenarios.{one_meaning, one_scenario_fault, meant_or_refused}
use Rattle.answer_laws.proofs.UniqueScenarioAnswers.{Agree, one_analysis}
use Rattle.answer_laws.proofs.UniqueExecutionAnswers.{IsAnswered, answered_design, one_answered}

alike : (n s t : ℕ) (a b : List ℕ) → s ≡ n → t ≡ n → a ≡ b → Agree s a t b
alike n s t a b e f same = (e ∙ sym f, same)

-- ---- print
printed : (bundle a b : List ℕ) → IsPrinted bundle a → IsPrinted bundle b → a ≡ b
printed bundle a b x y =
    let tree = one_tree bundle x.design y.design x.scenario y.scenario x.tree y.tree x.parsed y.parsed in
    x.text_is ∙ (ap (λ (t : PackageTree ℕ). canon t) tree ∙ sym y.text_is)

print_agrees : (bundle : List ℕ) (s t : ℕ) (a b : List ℕ) → IsPrintAnswer bundle s a → IsPrintAnswer bundle t b
    → Agree s a t b
print_agrees bundle s t a b (inl x) (inl y) = alike 0 s t a b x.0 y.0 (printed bundle a b x.1 y.1)
print_agrees bundle s t a b (inl x) (inr y) =
    absurd (read_or_refused bundle x.1.design x.1.scenario x.1.tree b x.1.parsed y.1)
print_agrees bundle s t a b (inr x) (inl y) =
    absurd (read_or_refused bundle y.1.design y.1.scenario y.1.tree a y.1.parsed x.1)
print_agrees bundle s t a b (inr x) (inr y) = alike 3 s t a b x.0 y.0 (one_refused_text bundle a b x.1 y.1)

module _ (one_design : OneDesign) (one_fault : OneFault) (made : AnalysisPremises) (laws : ExecutionPremises) where
  -- ---- refusals
  refusals_agree : (root bundle : List ℕ) (s t : ℕ) (a b : List ℕ) → IsBundleRefused root bundle s a
      → IsBundleRefused root bundle t b → Agree s a t b
  refusals_agree root bundle s t a b (inl x) (inl y) = alike 3 s t a b x.0 y.0 (one_refused_text bundle a b x.1 y.1)
  refusals_agree root bundle s t a b (inl x) (inr y) = absurd (package_or_text root bundle b a y.1 x.1)
  refusals_agree root bundle s t a b (inr x) (inl y) = absurd (package_or_text root bundle a b x.1 y.1)
  refusals_agree root bundle s t a b (inr x) (inr y) =
      alike 4 s t a b x.0 y.0 (one_refused_package one_fault root bundle a b x.1 y.1)

  -- ---- check
  checked : (root bundle a b : List ℕ) → IsChecked root bundle a → IsChecked root bundle b → a ≡ b
  checked root bundle a b x y =
      let design =
      (one_accepted one_design root bundle x.design y.design x.scenario y.scenario x.accepted y.accepted).0 in
      one_report y.design a b (subst (λ (d : DesignParts). IsCheckReport d a) design x.report) y.report

  check_agrees : (root bundle : List ℕ) (s t : ℕ) (a b : List ℕ) → IsCheckAnswer root bundle s a
      → IsCheckAnswer root bundle t b → Agree s a t b
  check_agrees root bundle s t a b (inl x) (inl y) = alike 0 s t a b x.0 y.0 (checked root bundle a b x.1 y.1)
  check_agrees root bundle s t a b (inl x) (inr y) =
      absurd (accepted_or_refused root bundle x.1.design x.1.scenario t b x.1.accepted y)
  check_agrees root bundle s t a b (inr x) (inl y) =
      absurd (accepted_or_refused root bundle y.1.design y.1.scenario s a y.1.accepted x)
  check_agrees root bundle s t a b (inr x) (inr y) = refusals_agree root bundle s t a b x y

  -- ---- analyses
  module _ (what : Analysis) (root bundle : List ℕ) where
    analysed : (s t : ℕ) (a b : List ℕ) → IsAnalysed what root bundle s a → IsAnalysed what root bundle t b
        → Agree s a t b
    analysed s t a b x y =
        let same =
        one_meaning one_design root bundle (command_of what root) x.design y.design x.scenario y.scenario
        x.means y.means in
        let moved =
        subst (λ (sc : Scenario). Makes what y.design sc s a) same.1
        (subst (λ (d : DesignParts). Makes what d x.scenario s a) same.0 x.makes) in
        let rules = made.rules root bundle y.design y.means.bytes y.means.accepted in
        let pairs = made.pairs y.means.bytes (command_of what root) y.design y.scenario y.means.means in
        one_analysis made.one_report what y.design y.scenario rules pairs s t a b moved y.makes

    analysed_or_refused : (s : ℕ) (a b : List ℕ) → IsAnalysed what root bundle s a
        → HasScenarioFault root bundle (command_of what root) b → ⊥
    analysed_or_refused s a b x y =
        meant_or_refused one_design root bundle (command_of what root) x.design x.scenario b x.means y

    analyses_agree : (s t : ℕ) (a b : List ℕ) → IsAnalysisAnswer what root bundle s a
        → IsAnalysisAnswer what root bundle t b → Agree s a t b
    analyses_agree s t a b (inl x) (inl y) = refusals_agree root bundle s t a b x y
    analyses_agree s t a b (inl x) (inr (inl y)) =
        absurd (accepted_or_refused root bundle y.1.design y.1.bytes s a y.1.accepted x)
    analyses_agree s t a b (inl x) (inr (inr y)) =
        absurd (accepted_or_refused root bundle y.design y.means.bytes s a y.means.accepted x)
    analyses_agree s t a b (inr (inl x)) (inl y) =
        absurd (accepted_or_refused root bundle x.1.design x.1.bytes t b x.1.accepted y)
    analyses_agree s t a b (inr (inl x)) (inr (inl y)) =
        alike 5 s t a b x.0 y.0 (one_scenario_fault one_design root bundle (command_of what root) a b x.1 y.1)
    analyses_agree s t a b (inr (inl x)) (inr (inr y)) = absurd (analysed_or_refused t b a y x.1)
    analyses_agree s t a b (inr (inr x)) (inl y) =
        absurd (accepted_or_refused root bundle x.design x.means.bytes t b x.means.accepted y)
    analyses_agree s t a b (inr (inr x)) (inr (inl y)) = absurd (analysed_or_refused s a b x y.1)
    analyses_agree s t a b (inr (inr x)) (inr (inr y)) = analysed s t a b x y

  -- ---- executions
  module _ (what : Execution) (root bundle : List ℕ) where
    answered_or_refused : (s t : ℕ) (a b : List ℕ) → IsAnswered what root bundle s a
        → IsBundleRefused root bundle t b → ⊥
    answered_or_refused s t a b x y = let d = answered_design what root bundle s a x in
        accepted_or_refused root bundle d.0 d.1 t b d.2 y

    executions_agree : is_run (execution_command what root) ≡ false → (s t : ℕ) (a b : List ℕ)
        → IsExecutionAnswer what root bundle s a → IsExecutionAnswer what root bundle t b → Agree s a t b
    executions_agree not_run s t a b (inl x) (inl y) = refusals_agree root bundle s t a b x y
    executions_agree not_run s t a b (inl x) (inr y) = absurd (answered_or_refused t s b a y x)
    executions_agree not_run s t a b (inr x) (inl y) = absurd (answered_or_refused s t a b x y)
    executions_agree not_run s t a b (inr x) (inr y) = one_answered one_design what root bundle laws not_run s t a b x y

  -- ---- each command other than `run`; no other arguments have an answer
  pub answers_agree : (command : Command) (bundle : List ℕ) (s t : ℕ) (a b : List ℕ) → is_run command ≡ false
      → IsCommandAnswer command bundle s a
      → IsCommandAnswer command bundle t b → Agree s a t b
  answers_agree Print bundle s t a b not_run x y = print_agrees bundle s t a b x y
  answers_agree (Check root) bundle s t a b not_run x y = check_agrees root bundle s t a b x y
  answers_agree (Sync root) bundle s t a b not_run x y = analyses_agree analysis.Sync root bundle s t a b x y
  answers_agree (World root false) bundle s t a b not_run x y =
      executions_agree execution.TimedWorld root bundle not_run s t a b x y
  answers_agree (World root true) bundle s t a b not_run x y =
      executions_agree execution.LooseWorld root bundle not_run s t a b x y
  answers_agree (Watch root) bundle s t a b not_run x y = analyses_agree analysis.Watch root bundle s t a b x y
  answers_agree (Vote root) bundle s t a b not_run x y = analyses_agree analysis.Vote root bundle s t a b x y
  answers_agree (Fuse root) bundle s t a b not_run x y = analyses_agree analysis.Fuse root bundle s t a b x y
  answers_agree (Run root trace) bundle s t a b not_run x y = absurd (true≢false not_run)
  answers_agree (Audit root) bundle s t a b not_run x y =
      executions_agree execution.Audit root bundle not_run s t a b x y
  answers_agree (Budget root) bundle s t a b not_run x y =
      executions_agree execution.Budget root bundle not_run s t a b x y
  answers_agree _ bundle s t a b not_run x y = absurd x
