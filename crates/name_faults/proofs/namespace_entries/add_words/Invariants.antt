use Rattle.std.proofs.Common.{◌≡◌, ◌++◌, map, drop}
use Rattle.aadl_tree.specs.proof.NameViews.{identifier_view}
use Rattle.aadl_tree.specs.proof.PlaceMaps.{kept_place}
use Rattle.aadl_names.specs.DuplicateNames.{entry_of}
use Rattle.name_faults.proofs.namespace_entries.add_words.Given as goal

-- the remaining part is still to be added
abbrev pub invariant-loop-word : goal.invariant-loop-word
invariant-loop-word l =
    l.initial.entries ++ map entry_of (map (identifier_view kept_place) l.word-items) ≡ l.entries
    ++ map entry_of (map (identifier_view kept_place) (drop l.word-index l.word-items))
