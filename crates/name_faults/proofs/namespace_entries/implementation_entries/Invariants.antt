use Rattle.std.proofs.Common.{◌≡◌, ◌++◌, map, drop}
use Rattle.aadl_tree.specs.proof.DeclarationViews.{declaration_view}
use Rattle.aadl_tree.specs.proof.PlaceMaps.{kept_place}
use Rattle.std.specs.List.{filter_map}
use Rattle.aadl_names.specs.DuplicatesByNamespace.{implementation_entry}
use Rattle.name_faults.proofs.namespace_entries.implementation_entries.Given as goal

-- the remaining part is still to be added
abbrev pub invariant-loop-declaration : goal.invariant-loop-declaration
invariant-loop-declaration l =
    filter_map implementation_entry (map (declaration_view kept_place) l.declaration-items) ≡ l.entries
    ++ filter_map implementation_entry
    (map (declaration_view kept_place) (drop l.declaration-index l.declaration-items))
