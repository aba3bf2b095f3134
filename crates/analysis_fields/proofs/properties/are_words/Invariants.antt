use Rattle.std.proofs.Common.{◌≡◌, map}
use Rattle.std.specs.List.{list_all}
use Rattle.pals_base.specs.Names.{is_word}
use Rattle.scenario_values.specs.FieldValues.{entry_of}
use Rattle.analysis_fields.proofs.properties.are_words.Given as goal

abbrev pub invariant-loop-name : goal.invariant-loop-name
invariant-loop-name l =
    list_all (λ e. is_word e.0) (map entry_of l.name-iterator)
    ≡ list_all (λ e. is_word e.0) (map entry_of l.initial.name-iterator)
