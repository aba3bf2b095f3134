-- What the program answers to a trace.
use Rattle.std.proofs.Common.{◌≡◌, ℕ, List, subst}
use Rattle.std.specs.Prelude.{Result, Ok, Err, IfOk}
use Rattle.pals_model.specs.declared.design.DesignParts.{DesignParts}
use Rattle.pals_runs.specs.declared.verdicts.Verdict.{Verdict}
use Rattle.scenario_json.specs.declared.scenario.Scenario.{Scenario}
use Rattle.bus_machine.specs.proof.AgreementLaws.{IsRunOf}
use Rattle.run_laws.specs.TraceVerdicts.{verdict}
use Rattle.run_laws.proofs.SoundTraces.{sound_are_traces}
use Rattle.run_laws.proofs.HistoryVerdicts.{traces_are_sound}
use Rattle.trace_laws.proofs.WrongLines.{wrong_lines_have_a_cause}
use Rattle.pals_top.specs.declared.answer.Answer.{Answer}
use Rattle.pals_top.specs.Audit.{SaysVerdict, IsAudited}
use Rattle.pals_top.specs.BundleScenarios.{run_of}
use Rattle.pals_top.specs.proof.StatusAndText.{status_of, text_of}

pub audit_of : (design : DesignParts) (scenario : Scenario) (status : ℕ) (text : List ℕ)
    → IsRunOf (run_of design scenario)
    → SaysVerdict design (verdict (run_of design scenario) scenario.trace) status text
    → IsAudited design scenario status text
audit_of design scenario status text rules says =
    let run = run_of design scenario in
    let lines = scenario.trace in
    record {
      judged = says;
      sound =
          λ rounds stop. (sound_are_traces run lines rounds stop rules, traces_are_sound run lines rounds stop rules);
      wrong = λ index why is. wrong_lines_have_a_cause run lines index why rules is;
    }

-- the line of the verdict on a scenario's trace
pub audited : {E : Type 0} (design shown : DesignParts) (scenario : Scenario) (v : Verdict) (answered : Result Answer E)
    → IsRunOf (run_of design scenario) → shown ≡ design
    → v ≡ verdict (run_of design scenario) scenario.trace
    → IfOk answered (λ a. SaysVerdict shown v (status_of a) (text_of a))
    → IfOk answered (λ a. IsAudited design scenario (status_of a) (text_of a))
audited design shown scenario v (Ok a) rules same is says =
    audit_of design scenario (status_of a) (text_of a) rules
    (subst (λ w. SaysVerdict design w (status_of a) (text_of a)) is
    (subst (λ d. SaysVerdict d v (status_of a) (text_of a)) same says))
audited design shown scenario v (Err e) rules same is says = tt
