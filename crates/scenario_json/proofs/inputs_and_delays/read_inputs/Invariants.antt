use Rattle.std.proofs.Common.{◌≡◌, [], length, map, replicate}
use Rattle.pals_model.specs.ComponentInputs.{root_inputs}
use Rattle.scenario_values.specs.ResultCombinators.{through}
use Rattle.scenario_values.specs.FieldValues.{entry_of}
use Rattle.scenario_json.specs.InputsAndDelays.{with_input}
use Rattle.scenario_json.proofs.inputs_and_delays.read_inputs.Given as goal

-- the lists so far, and the result of the definition
abbrev pub invariant-loop-name : goal.invariant-loop-name
invariant-loop-name l =
    let step = with_input l.names in
    (length l.lists ≡ length (root_inputs l.names))
    × (through step l.lists (map entry_of l.name-iterator)
    ≡ through step (replicate (length (root_inputs l.names)) []) (map entry_of l.initial.name-iterator))
