use Rattle.std.proofs.Common.{◌≡◌, [], map}
use Rattle.analysis_fields.specs.Properties.{with_property}
use Rattle.scenario_values.specs.ResultCombinators.{through}
use Rattle.scenario_values.specs.FieldValues.{entry_of}
use Rattle.analysis_fields.proofs.properties.read_properties.Given as goal

-- the result so far, and the result of the definition
abbrev pub invariant-loop-name : goal.invariant-loop-name
invariant-loop-name l =
    let step = with_property l.names in
    (through step l.properties (map entry_of l.name-iterator) ≡ through step [] (map entry_of l.initial.name-iterator))
