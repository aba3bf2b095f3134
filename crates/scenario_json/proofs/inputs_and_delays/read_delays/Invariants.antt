use Rattle.std.proofs.Common.{◌≡◌, [], ◌∷◌, length, map, replicate}
use Rattle.scenario_values.specs.ResultCombinators.{through}
use Rattle.scenario_values.specs.FieldValues.{entry_of}
use Rattle.scenario_json.specs.InputsAndDelays.{with_link_delays}
use Rattle.scenario_json.proofs.inputs_and_delays.read_delays.Given as goal

-- the lists so far, and the result of the definition
abbrev pub invariant-loop-name : goal.invariant-loop-name
invariant-loop-name l =
    let step = with_link_delays l.names in
    (length l.lists ≡ length l.names.links)
    × (through step l.lists (map entry_of l.name-iterator)
    ≡ through step (replicate (length l.names.links) (l.names.gamma.mu_min ∷ []))
    (map entry_of l.initial.name-iterator))
