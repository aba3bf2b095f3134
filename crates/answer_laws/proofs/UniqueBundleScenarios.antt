-- A bundle means one scenario at most for its design, or its scenario has one fault, and not both.
use Rattle.std.proofs.Common.{◌≡◌, ◌∙◌, ℕ, List, ◌++◌, Result, Ok, Err, sym, ap, subst}
use Rattle.pals_model.specs.declared.design.DesignParts.{DesignParts}
use Rattle.pals_model.specs.RoundTexts.{line_end}
use Rattle.pals_runs.specs.declared.commands.Command.{Command}
use Rattle.scenario_values.specs.declared.fault.ScenarioFault.{ScenarioFault}
use Rattle.scenario_json.specs.declared.scenario.Scenario.{Scenario}
use Rattle.scenario_json.specs.Scenarios.{Means}
use Rattle.pals_report.specs.ScenarioFaultLines.{scenario_fault_line}
use Rattle.bundle_designs.specs.AcceptedAndRefusedPackages.{IsAccepted}
use Rattle.pals_top.specs.BundleScenarios.{HasScenario, HasScenarioFault}
use Rattle.answer_laws.proofs.UniqueScenarios.{same_scenario, same_fault, scenario_or_fault}
use Rattle.answer_laws.specs.proof.UniquenessPremises.{OneDesign}
use Rattle.answer_laws.proofs.UniqueDesignsAndRefusals.{one_accepted}

module _ (one_design : OneDesign) (root bundle : List ℕ) (command : Command) where
  -- what one bundle's design and bytes mean, the same bundle's other design and bytes mean too
  pub moved : {a b : DesignParts} {s t : List ℕ} (meant : Result Scenario ScenarioFault) → IsAccepted root bundle a s
      → IsAccepted root bundle b t
      → Means s a command meant → Means t b command meant
  moved {a} {b} {s} {t} meant x y m =
      let both = one_accepted one_design root bundle a b s t x y in
      subst (λ (w : List ℕ). Means w b command meant) both.1
      (subst (λ (d : DesignParts). Means s d command meant) both.0 m)

  -- it means one design with one scenario
  pub one_meaning : (a b : DesignParts) (s t : Scenario) → HasScenario root bundle command a s
      → HasScenario root bundle command b t → (a ≡ b) × (s ≡ t)
  one_meaning a b s t x y = (
    (one_accepted one_design root bundle a b x.bytes y.bytes x.accepted y.accepted).0,
    same_scenario y.bytes b command s t (moved (Ok s) x.accepted y.accepted x.means) y.means,
  )

  -- one fault is named
  pub one_scenario_fault : (a b : List ℕ) → HasScenarioFault root bundle command a
      → HasScenarioFault root bundle command b → a ≡ b
  one_scenario_fault a b x y =
      let faulty = moved (Err x.fault) x.accepted y.accepted x.faulty in
      let fault = same_fault y.bytes y.design command x.fault y.fault faulty y.faulty in
      x.text_is ∙ (ap (λ (f : ScenarioFault). scenario_fault_line f ++ line_end) fault ∙ sym y.text_is)

  pub meant_or_refused : (design : DesignParts) (scenario : Scenario) (a : List ℕ)
      → HasScenario root bundle command design scenario
      → HasScenarioFault root bundle command a → ⊥
  meant_or_refused design scenario a x y =
      scenario_or_fault y.bytes y.design command scenario y.fault
      (moved (Ok scenario) x.accepted y.accepted x.means) y.faulty
