use Rattle.std.proofs.Common.{◌≡◌, ℕ, List, map, drop}
use Rattle.std.specs.Option.{option_or}
use Rattle.aadl_tree.specs.proof.NameViews.{identifier_view}
use Rattle.aadl_tree.specs.proof.PlaceMaps.{kept_place}
use Rattle.aadl_names.specs.proof.NameTables.{value_of}
use Rattle.aadl_names.specs.PackageNameFaults.{is_among}
use Rattle.name_faults.specs.proof.ConditionalValues.{value_if}
use Rattle.name_faults.proofs.behaviour_name_tables.add_words.Given as goal

-- the remaining part is still to be added
abbrev pub invariant-loop-word : goal.invariant-loop-word
invariant-loop-word g l =
    (name : List ℕ)
    → option_or (value_of l.initial.table name)
    (value_if l.value (is_among (map (identifier_view kept_place) l.word-items) name))
    ≡ option_or (value_of l.table name)
    (value_if l.value (is_among (map (identifier_view kept_place) (drop l.word-index l.word-items)) name))
