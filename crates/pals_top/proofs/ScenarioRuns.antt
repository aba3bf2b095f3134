-- For `run_nodes`: the readings of a scenario's clocks are in range, and the report of a run of the scenario is a
-- report for the scenario.
use Rattle.std.proofs.Common.{◌≡◌, inl, inr, ℕ, ◌≤◌, Bool, List, length, All, sym, subst}
use Rattle.std.proofs.lemmas.Bool.{cases_lt}
use Rattle.std.proofs.lemmas.List.{get_or_past}
use Rattle.std.proofs.lemmas.List.Elements.{All-nil}
use Rattle.pals_base.specs.declared.limits.TheConstants.{READING}
use Rattle.pals_clock.specs.ClockStates.{ClockState}
use Rattle.pals_clock.specs.declared.clock.Clocks.{Clocks}
use Rattle.pals_clock.specs.declared.clock.Clocks.TheVariants.{Meet, Lists}
use Rattle.pals_model.specs.declared.design.DesignParts.{DesignParts}
use Rattle.step_code.specs.declared.instr.CodeParts.{CodeParts}
use Rattle.pals_bus.specs.BusValues.{BusValue}
use Rattle.pals_bus.specs.proof.OpeningNodes.{opening_bus}
use Rattle.scenario_json.specs.declared.scenario.Scenario.{Scenario}
use Rattle.scenario_json.specs.proof.InputsDelaysAndClocks.{AreClocksOf, AreClocksFor}
use Rattle.scenario_json.specs.proof.ScenarioValidity.{IsScenarioOf}
use Rattle.run_laws.specs.Runs.{no_clock, clock_at}
use Rattle.run_laws.specs.proof.RunTraces.{AreReadings}
use Rattle.node_threads.specs.declared.node_end.NodeEnd.{NodeEnd}
use Rattle.node_threads.specs.proof.NodeEndsAndOutcomes.{IsOutcome}
use Rattle.run_texts.specs.declared.run_report.RunReport.{RunReport}
use Rattle.run_texts.specs.RunTexts.{TellsRun}
use Rattle.pals_top.specs.BundleScenarios.{run_of}

in_range : (design : DesignParts) (clocks : List ClockState) → AreClocksOf design clocks → (node : ℕ)
    → All (λ reading. reading ≤ READING) (clock_at clocks node).readings
in_range design clocks are node = elim (cases_lt node (length clocks)) [
  | inl within ↦ (are.each node no_clock within).within
  | inr past ↦
      subst (λ (c : ClockState). All (λ reading. reading ≤ READING) c.readings)
      (sym (get_or_past clocks node no_clock past)) (All-nil (λ reading. reading ≤ READING))
]

pub are_readings : (design : DesignParts) (clocks : Clocks) → AreClocksFor design clocks → AreReadings clocks
are_readings design Meet are = tt
are_readings design (Lists clocks) are = in_range design clocks are

-- the report on the outcome of a bus that opens as the scenario specifies is a report on the scenario's run
pub told_of_scenario : (design : DesignParts) (scenario : Scenario) (trace : Bool) (codes : List CodeParts)
    (meeting : Bool) (bus new : BusValue) (ends : List NodeEnd) (told is : RunReport) → IsScenarioOf design scenario
    → bus ≡ opening_bus (run_of design scenario) codes meeting → IsOutcome bus scenario.clocks new ends
    → ((old : BusValue) (clocks : Clocks) → IsOutcome old clocks new ends → AreReadings clocks
    → TellsRun old.run clocks trace told)
    → told ≡ is → TellsRun (run_of design scenario) scenario.clocks trace is
told_of_scenario design scenario trace codes meeting bus new ends told is kept opens out tells same =
    let readings = are_readings design scenario.clocks kept.clock in
    let of_told : TellsRun (run_of design scenario) scenario.clocks trace told =
    subst (λ (b : BusValue). TellsRun b.run scenario.clocks trace told) opens
    (tells bus scenario.clocks out readings) in
    subst (TellsRun (run_of design scenario) scenario.clocks trace) same of_told
