-- Bytes of a scenario mean one thing: a scenario or a fault.
use Rattle.std.proofs.Common.{◌≡◌, ◌∙◌, inl, inr, ℕ, List, Result, Ok, Err, sym, ap}
use Rattle.std.proofs.lemmas.Option.{same_Some}
use Rattle.serde_json.specs.Data.{Data}
use Rattle.pals_model.specs.declared.design.DesignParts.{DesignParts}
use Rattle.pals_runs.specs.declared.commands.Command.{Command}
use Rattle.scenario_values.specs.declared.fault.ScenarioFault.{ScenarioFault}
use Rattle.scenario_json.specs.declared.scenario.Scenario.{Scenario}
use Rattle.scenario_json.specs.Scenarios.{scen, IsValue, Means}

-- ---- scenarios
one_value : (bytes : List ℕ) (d e : Data) → IsValue bytes d → IsValue bytes e → d ≡ e
one_value bytes d e x y = same_Some d e (sym x.1 ∙ y.1)

pub one_scenario : (bytes : List ℕ) (design : DesignParts) (command : Command) (a b : Result Scenario ScenarioFault)
    → Means bytes design command a → Means bytes design command b → a ≡ b
one_scenario bytes design command a b (inl x) (inl y) =
    sym x.2 ∙ (ap (λ d. scen d design command) (one_value bytes x.0 y.0 x.1 y.1) ∙ y.2)
one_scenario bytes design command a b (inl x) (inr y) = absurd (y.0 x.0 x.1)
one_scenario bytes design command a b (inr x) (inl y) = absurd (x.0 y.0 y.1)
one_scenario bytes design command a b (inr x) (inr y) = x.1 ∙ sym y.1

abbrev meant_or : Scenario → Result Scenario ScenarioFault → Scenario
meant_or other (Ok s) = s
meant_or other (Err fault) = other

abbrev fault_or : ScenarioFault → Result Scenario ScenarioFault → ScenarioFault
fault_or other (Ok s) = other
fault_or other (Err fault) = fault

pub same_scenario : (bytes : List ℕ) (design : DesignParts) (command : Command) (a b : Scenario)
    → Means bytes design command (Ok a) → Means bytes design command (Ok b) → a ≡ b
same_scenario bytes design command a b x y = ap (meant_or a) (one_scenario bytes design command (Ok a) (Ok b) x y)

pub same_fault : (bytes : List ℕ) (design : DesignParts) (command : Command) (a b : ScenarioFault)
    → Means bytes design command (Err a) → Means bytes design command (Err b) → a ≡ b
same_fault bytes design command a b x y = ap (fault_or a) (one_scenario bytes design command (Err a) (Err b) x y)

pub scenario_or_fault : (bytes : List ℕ) (design : DesignParts) (command : Command) (a : Scenario) (b : ScenarioFault)
    → Means bytes design command (Ok a) → Means bytes design command (Err b) → ⊥
scenario_or_fault bytes design command a b x y =
    let e : ◌≡◌ {A = Result Scenario ScenarioFault} (Ok a) (Err b) =
    one_scenario bytes design command (Ok a) (Err b) x y in absurd (cc e)
