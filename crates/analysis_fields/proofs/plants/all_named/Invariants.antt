use Rattle.std.proofs.Common.{◌≡◌, ◌++◌, map}
use Rattle.scenario_values.specs.FieldValues.{entry_of}
use Rattle.analysis_fields.specs.Plants.{named_in}
use Rattle.analysis_fields.proofs.plants.all_named.Given as goal

-- the components that the entries so far name, and the ones that the remaining entries name
abbrev pub invariant-loop-name : goal.invariant-loop-name
invariant-loop-name l =
    l.all.items ++ map (named_in l.names) (map entry_of l.name-iterator)
    ≡ map (named_in l.names) (map entry_of l.initial.name-iterator)
