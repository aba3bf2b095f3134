use Rattle.std.proofs.Common.{◌≡◌, ℕ, List, map, drop}
use Rattle.aadl_tree.specs.Names.{identifiers}
use Rattle.std.specs.List.{flat_map}
use Rattle.std.specs.Option.{option_or}
use Rattle.aadl_tree.specs.proof.AnnexViews.{variable_view}
use Rattle.aadl_tree.specs.proof.PlaceMaps.{kept_place}
use Rattle.aadl_names.specs.declared.name_roles.Role.TheVariants.{Varies}
use Rattle.aadl_names.specs.proof.NameTables.{value_of}
use Rattle.aadl_names.specs.PackageNameFaults.{is_among}
use Rattle.name_faults.specs.proof.ConditionalValues.{value_if}
use Rattle.name_faults.proofs.behaviour_name_tables.variable_roles.Given as goal

-- the remaining part is still to be added
abbrev pub invariant-loop-declaration : goal.invariant-loop-declaration
invariant-loop-declaration l =
    (name : List ℕ)
    → value_if Varies (is_among
    (flat_map (λ d. identifiers d.names) (map (variable_view kept_place) l.declaration-items)) name)
    ≡ option_or (value_of l.table name) (value_if Varies
    (is_among (flat_map (λ d. identifiers d.names)
    (map (variable_view kept_place) (drop l.declaration-index l.declaration-items))) name))
