-- The answer to a scenario with a fault.
use Rattle.std.proofs.Common.{◌≡◌, ◌≢◌, ℕ, List, ◌++◌, Result, Ok, Err, IfOk}
use Rattle.pals_model.specs.declared.design.DesignParts.{DesignParts}
use Rattle.pals_model.specs.RoundTexts.{line_end}
use Rattle.pals_runs.specs.declared.commands.Command.{Command}
use Rattle.scenario_values.specs.declared.fault.ScenarioFault.{ScenarioFault}
use Rattle.scenario_values.specs.declared.fault.ScenarioFault.TheVariants.{Memory}
use Rattle.scenario_json.specs.Scenarios.{Means}
use Rattle.pals_report.specs.ScenarioFaultLines.{scenario_fault_line}
use Rattle.bundle_designs.specs.AcceptedAndRefusedPackages.{IsAccepted}
use Rattle.pals_top.specs.declared.answer.Answer.{Answer}
use Rattle.pals_top.specs.declared.status.TheConstants.{SCENARIO_REFUSED}
use Rattle.pals_top.specs.BundleScenarios.{HasScenarioFault}
use Rattle.pals_top.specs.proof.StatusAndText.{status_of, text_of}

-- the answer reports that the bundle's scenario has a fault, and its design is this one
pub record SaysFault (root bundle : List ℕ) (design : DesignParts) (command : Command) (a : Answer) : Type 0 where
  pub status_is : status_of a ≡ SCENARIO_REFUSED
  pub faulty : HasScenarioFault root bundle command (text_of a)
  pub design_is : faulty.design ≡ design

module _ (root bundle : List ℕ) (design : DesignParts) (bytes : List ℕ) (command : Command)
    (fault : ScenarioFault) where
  pub says_fault : (a : Answer) → IsAccepted root bundle design bytes
      → (fault ≢ Memory → Means bytes design command (Err fault))
      → status_of a ≡ SCENARIO_REFUSED → text_of a ≡ scenario_fault_line fault ++ line_end → fault ≢ Memory
      → SaysFault root bundle design command a
  says_fault a accepted means status text named = record {
    status_is = status;
    faulty = record {
      design = design;
      bytes = bytes;
      accepted = accepted;
      fault = fault;
      faulty = means named;
      named = named;
      text_is = text;
    };
    design_is = λ i. design;
  }

  pub faults_said : {E : Type 0} (answered : Result Answer E) → IsAccepted root bundle design bytes
      → (fault ≢ Memory → Means bytes design command (Err fault))
      → IfOk answered (λ a. status_of a ≡ SCENARIO_REFUSED)
      → IfOk answered (λ a. text_of a ≡ scenario_fault_line fault ++ line_end)
      → IfOk answered (λ a. fault ≢ Memory) → IfOk answered (SaysFault root bundle design command)
  faults_said (Ok a) accepted means status text named = says_fault a accepted means status text named
  faults_said (Err e) accepted means status text named = tt
