-- The line of a rejected scenario: `scenario`, the fault, and the name of its location or a number, if it has one.
use Rattle.std.specs.Prelude.{ℕ, codes, decimal, List, [], ◌∷◌}
use Rattle.pals_runs.specs.JournalLines.{spaced}
use Rattle.scenario_values.specs.declared.fault.ScenarioFault.{ScenarioFault}
use Rattle.scenario_values.specs.declared.fault.ScenarioFault.TheVariants.{NotJson, Field, WrongKind, Unknown}
use Rattle.scenario_values.specs.declared.fault.ScenarioFault.TheVariants.{OutOfRange, TooBig, Memory}

-- an allocation failure is not a fault of a scenario
abbrev pub scenario_fault_words : ScenarioFault → List (List ℕ)
scenario_fault_words NotJson = codes "scenario" ∷ codes "NotJson" ∷ []
scenario_fault_words (Field name) = codes "scenario" ∷ codes "Field" ∷ name ∷ []
scenario_fault_words (WrongKind name) = codes "scenario" ∷ codes "WrongKind" ∷ name ∷ []
scenario_fault_words (Unknown name) = codes "scenario" ∷ codes "Unknown" ∷ name ∷ []
scenario_fault_words (OutOfRange name) = codes "scenario" ∷ codes "OutOfRange" ∷ name ∷ []
scenario_fault_words (TooBig cells) = codes "scenario" ∷ codes "TooBig" ∷ decimal cells ∷ []
scenario_fault_words Memory = codes "scenario" ∷ codes "Memory" ∷ []

abbrev pub scenario_fault_line : ScenarioFault → List ℕ
scenario_fault_line fault = spaced (scenario_fault_words fault)
