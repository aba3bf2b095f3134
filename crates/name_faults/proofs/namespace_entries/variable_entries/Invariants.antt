use Rattle.std.proofs.Common.{◌≡◌, ◌++◌, map, drop}
use Rattle.aadl_tree.specs.Names.{identifiers}
use Rattle.aadl_tree.specs.proof.AnnexViews.{variable_view}
use Rattle.aadl_tree.specs.proof.PlaceMaps.{kept_place}
use Rattle.std.specs.List.{flat_map}
use Rattle.aadl_names.specs.DuplicateNames.{entry_of}
use Rattle.name_faults.proofs.namespace_entries.variable_entries.Given as goal

-- the remaining part is still to be added
abbrev pub invariant-loop-declaration : goal.invariant-loop-declaration
invariant-loop-declaration l =
    map entry_of (flat_map (λ d. identifiers d.names) (map (variable_view kept_place) l.declaration-items)) ≡ l.entries
    ++ map entry_of (flat_map (λ d. identifiers d.names)
    (map (variable_view kept_place) (drop l.declaration-index l.declaration-items)))
