use Rattle.std.proofs.Common.{◌≡◌, [], map}
use Rattle.analysis_fields.specs.Processors.{with_processor}
use Rattle.scenario_values.specs.ResultCombinators.{through}
use Rattle.scenario_values.specs.FieldValues.{entry_of}
use Rattle.analysis_fields.proofs.processors.place_all.Given as goal

-- the result so far, and the result of the definition
abbrev pub invariant-loop-name : goal.invariant-loop-name
invariant-loop-name l =
    let step = with_processor l.names in
    (through step (l.owners, l.processors) (map entry_of l.name-iterator)
    ≡ through step (l.initial.owners, []) (map entry_of l.initial.name-iterator))
