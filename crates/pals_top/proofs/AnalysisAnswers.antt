-- What the program answers to a bundle whose design is accepted, where a command needs no step codes.
use Rattle.std.proofs.Common.{inl, inr, ℕ, List, Result, Ok, Err, IfOk}
use Rattle.pals_model.specs.declared.design.DesignParts.{DesignParts}
use Rattle.scenario_json.specs.declared.scenario.Scenario.{Scenario}
use Rattle.scenario_json.specs.Scenarios.{Means}
use Rattle.bundle_designs.specs.AcceptedAndRefusedPackages.{IsAccepted}
use Rattle.pals_top.specs.AnalysisCommands.{Analysis}
use Rattle.pals_top.specs.declared.answer.Answer.{Answer}
use Rattle.pals_top.specs.AnalysisAnswers.{command_of, Makes, IsAnalysisAnswer}
use Rattle.pals_top.specs.proof.StatusAndText.{status_of, text_of}
use Rattle.pals_top.proofs.ScenarioFaultAnswers.{SaysFault}

abbrev IsAnswered : Analysis → List ℕ → List ℕ → Answer → Type 0
IsAnswered what root bundle a = IsAnalysisAnswer what root bundle (status_of a) (text_of a)

pub refused : {E : Type 0} (what : Analysis) (root bundle : List ℕ) (design : DesignParts) (answered : Result Answer E)
    → IfOk answered (SaysFault root bundle design (command_of what root)) → IfOk answered (IsAnswered what root bundle)
refused what root bundle design (Ok a) says = inr (inl (says.status_is, says.faulty))
refused what root bundle design (Err e) says = tt

pub analysed : {E : Type 0} (what : Analysis) (root bundle : List ℕ) (design : DesignParts) (bytes : List ℕ)
    (scenario : Scenario) (answered : Result Answer E)
    → IsAccepted root bundle design bytes → Means bytes design (command_of what root) (Ok scenario)
    → IfOk answered (λ a. Makes what design scenario (status_of a) (text_of a))
    → IfOk answered (IsAnswered what root bundle)
analysed what root bundle design bytes scenario (Ok a) accepted means makes =
    inr (inr (record {
      design = design;
      scenario = scenario;
      means = record { bytes = bytes; accepted = accepted; means = means };
      makes = makes;
    }))
analysed what root bundle design bytes scenario (Err e) accepted means makes = tt
