use Rattle.std.proofs.Common.{◌≡◌, map, not}
use Rattle.std.specs.Prelude.{find}
use Rattle.scenario_values.specs.FieldValues.{entry_of}
use Rattle.scenario_json.specs.Scenarios.{is_field}
use Rattle.scenario_json.proofs.scenario_reader.unknown_field.Given as goal

abbrev pub invariant-loop-name : goal.invariant-loop-name
invariant-loop-name l =
    find (λ e. not (is_field e.0)) (map entry_of l.name-iterator)
    ≡ find (λ e. not (is_field e.0)) (map entry_of l.initial.name-iterator)
