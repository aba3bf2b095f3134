use Rattle.std.proofs.Common.{◌≡◌, [], length, map, replicate}
use Rattle.pals_clock.specs.ClockStates.{unpicked}
use Rattle.scenario_json.specs.Clocks.{with_clock}
use Rattle.scenario_values.specs.ResultCombinators.{through}
use Rattle.scenario_values.specs.FieldValues.{entry_of}
use Rattle.scenario_json.proofs.clocks.clock_lists.Given as goal

-- the result so far, and the result of the definition
abbrev pub invariant-loop-name : goal.invariant-loop-name
invariant-loop-name l =
    let step = with_clock l.names in
    (length l.clocks ≡ length l.names.components)
    × (through step l.clocks (map entry_of l.name-iterator)
    ≡ through step (replicate (length l.names.components) (unpicked [])) (map entry_of l.initial.name-iterator))
