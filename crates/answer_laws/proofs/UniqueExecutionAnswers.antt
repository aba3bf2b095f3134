-- A command other than `run` that needs step codes has one answer to a bundle.
use Rattle.std.proofs.Common.{◌≡◌, ◌∙◌, ◌⊎◌, inl, inr, ℕ, ◌<◌, false, List, length, ◌++◌, sym, ap, subst, arith}
use Rattle.std.proofs.lemmas.Bool.{cases_lt}
use Rattle.pals_base.specs.declared.limits.TheConstants.{INSTRUCTIONS}
use Rattle.pals_model.specs.declared.design.DesignParts.{DesignParts}
use Rattle.pals_model.specs.RoundTexts.{line_end}
use Rattle.step_code.specs.CappedWeights.{capped}
use Rattle.design_codes.specs.OverlongCodes.{length_of, AreShort, IsFirstTooLong}
use Rattle.scenario_json.specs.declared.scenario.Scenario.{Scenario}
use Rattle.bundle_designs.specs.AcceptedAndRefusedPackages.{IsAccepted}
use Rattle.pals_top.specs.ExecutionCommands.{Execution}
use Rattle.pals_top.specs.ExecutionAnswers.{command_of, Makes, IsExecuted, IsScenarioRefusedIn, IsCodeTooLong}
use Rattle.pals_top.specs.ExecutionAnswers.{overlong_code_line}
use Rattle.answer_laws.specs.proof.BundleContents.{HasLongCode}
use Rattle.pals_top.specs.proof.FlaggedAndRunCommands.{is_run}
use Rattle.answer_laws.specs.proof.UniquenessPremises.{OneDesign, ExecutionPremises}
use Rattle.answer_laws.proofs.UniqueDesignsAndRefusals.{one_accepted}
use Rattle.answer_laws.proofs.UniqueBundleScenarios.{one_meaning, one_scenario_fault, meant_or_refused}
use Rattle.answer_laws.proofs.UniqueScenarioAnswers.{Agree, one_execution}

-- the first code that is too long is one
same_place : (design : DesignParts) (node other size more : ℕ) → IsFirstTooLong design node size
    → IsFirstTooLong design other more → node ≡ other
same_place design node other size more x y = elim (cases_lt node other) [
  | inl before ↦ let short = y.before node before in let over = x.over in absurd (omega arith)
  | inr after ↦ elim (cases_lt other node) [
    | inl before ↦ let short = x.before other before in let over = y.over in absurd (omega arith)
    | inr same ↦ omega arith
  ]
]

same_size : (design : DesignParts) (node other size more : ℕ) → node ≡ other → IsFirstTooLong design node size
    → IsFirstTooLong design other more
    → size ≡ more
same_size design node other size more same x y = x.size_is ∙ ap (λ n. capped (length_of design n)) same ∙ sym y.size_is

module _ (what : Execution) (root bundle : List ℕ) where
  -- ---- answers where the bundle means a design
  abbrev pub IsAnswered : ℕ → List ℕ → Type 0
  IsAnswered s a =
      IsCodeTooLong root bundle s a ⊎ IsScenarioRefusedIn root bundle (command_of what root) s a
      ⊎ IsExecuted what root bundle s a

  pub answered_design : (s : ℕ) (a : List ℕ) → IsAnswered s a
      → (design : DesignParts) × (bytes : List ℕ) × IsAccepted root bundle design bytes
  answered_design s a (inl x) = (x.design, x.scenario, x.accepted)
  answered_design s a (inr (inl x)) = (x.faulty.design, x.faulty.bytes, x.faulty.accepted)
  answered_design s a (inr (inr x)) = (x.design, x.means.bytes, x.means.accepted)

module _ (root bundle : List ℕ) where
  pub long_code : (s : ℕ) (a : List ℕ) → IsCodeTooLong root bundle s a → HasLongCode root bundle
  long_code s a x =
      record {
        design = x.design;
        scenario = x.scenario;
        accepted = x.accepted;
        node = x.node.0;
        within = x.too_long.within;
        long = x.too_long.over;
      }

module _ (one_design : OneDesign) (root bundle : List ℕ) where
  -- ---- codes that are too long
  -- a code of its design is, or none is
  pub long_or_short : (design : DesignParts) (bytes : List ℕ) → HasLongCode root bundle
      → IsAccepted root bundle design bytes → AreShort design → ⊥
  long_or_short design bytes x accepted short =
      let same = (one_accepted one_design root bundle x.design design x.scenario bytes x.accepted accepted).0 in
      let within = subst (λ (d : DesignParts). x.node < length d.components) same x.within in
      let long = subst (λ (d : DesignParts). INSTRUCTIONS < length_of d x.node) same x.long in
      let least = short x.node within in
      absurd (omega arith)

  pub one_code_fault : (s t : ℕ) (a b : List ℕ) → IsCodeTooLong root bundle s a → IsCodeTooLong root bundle t b → a ≡ b
  one_code_fault s t a b x y =
      let design =
      (one_accepted one_design root bundle x.design y.design x.scenario y.scenario x.accepted y.accepted).0 in
      let first = subst (λ d. IsFirstTooLong d x.node.0 x.size) design x.too_long in
      let node = same_place y.design x.node.0 y.node.0 x.size y.size first y.too_long in
      let size = same_size y.design x.node.0 y.node.0 x.size y.size node first y.too_long in
      x.text_is ∙ ((λ i. overlong_code_line (design i) (node i) (size i) ++ line_end) ∙ sym y.text_is)

module _ (one_design : OneDesign) (what : Execution) (root bundle : List ℕ) where
  -- ---- the results
  pub executions_agree : ExecutionPremises → is_run (command_of what root) ≡ false → (s t : ℕ) (a b : List ℕ)
      → IsExecuted what root bundle s a → IsExecuted what root bundle t b → Agree s a t b
  executions_agree laws not_run s t a b x y =
      let same =
      one_meaning one_design root bundle (command_of what root) x.design y.design x.scenario y.scenario
      x.means y.means in
      let moved =
      subst (λ (sc : Scenario). Makes what y.design sc s a) same.1
      (subst (λ (d : DesignParts). Makes what d x.scenario s a) same.0 x.makes) in
      one_execution laws what root not_run y.design y.scenario s t a b moved y.makes

  -- ---- two of them
  long_or_refused : (s t : ℕ) (a b : List ℕ) → IsCodeTooLong root bundle s a
      → IsScenarioRefusedIn root bundle (command_of what root) t b → ⊥
  long_or_refused s t a b x y =
      long_or_short one_design root bundle y.faulty.design y.faulty.bytes (long_code root bundle s a x)
      y.faulty.accepted y.short

  long_or_made : (s t : ℕ) (a b : List ℕ) → IsCodeTooLong root bundle s a → IsExecuted what root bundle t b → ⊥
  long_or_made s t a b x y =
      long_or_short one_design root bundle y.design y.means.bytes (long_code root bundle s a x) y.means.accepted y.short

  refused_or_made : (s t : ℕ) (a b : List ℕ) → IsScenarioRefusedIn root bundle (command_of what root) s a
      → IsExecuted what root bundle t b → ⊥
  refused_or_made s t a b x y =
      meant_or_refused one_design root bundle (command_of what root) y.design y.scenario a y.means x.faulty

  pub one_answered : ExecutionPremises → is_run (command_of what root) ≡ false → (s t : ℕ) (a b : List ℕ)
      → IsAnswered what root bundle s a → IsAnswered what root bundle t b → Agree s a t b
  one_answered laws not_run s t a b (inl x) (inl y) =
      (x.status_is ∙ sym y.status_is, one_code_fault one_design root bundle s t a b x y)
  one_answered laws not_run s t a b (inl x) (inr (inl y)) = absurd (long_or_refused s t a b x y)
  one_answered laws not_run s t a b (inl x) (inr (inr y)) = absurd (long_or_made s t a b x y)
  one_answered laws not_run s t a b (inr (inl x)) (inl y) = absurd (long_or_refused t s b a y x)
  one_answered laws not_run s t a b (inr (inl x)) (inr (inl y)) = (
    x.status_is ∙ sym y.status_is,
    one_scenario_fault one_design root bundle (command_of what root) a b x.faulty y.faulty,
  )
  one_answered laws not_run s t a b (inr (inl x)) (inr (inr y)) = absurd (refused_or_made s t a b x y)
  one_answered laws not_run s t a b (inr (inr x)) (inl y) = absurd (long_or_made t s b a y x)
  one_answered laws not_run s t a b (inr (inr x)) (inr (inl y)) = absurd (refused_or_made t s b a y x)
  one_answered laws not_run s t a b (inr (inr x)) (inr (inr y)) = executions_agree laws not_run s t a b x y
