use Rattle.std.proofs.Common.{◌≡◌, ℕ, List, map, drop}
use Rattle.std.specs.Option.{option_or}
use Rattle.aadl_tree.specs.proof.DeclarationViews.{feature_view}
use Rattle.aadl_tree.specs.proof.PlaceMaps.{kept_place}
use Rattle.aadl_names.specs.proof.NameTables.{value_of}
use Rattle.aadl_names.specs.PackageNameFaults.{port_roles}
use Rattle.name_faults.proofs.port_name_tables.port_roles.Given as goal

-- the remaining part is still to be added
abbrev pub invariant-loop-port : goal.invariant-loop-port
invariant-loop-port l =
    (name : List ℕ)
    → port_roles (map (feature_view kept_place) l.ports) name
    ≡ option_or (value_of l.roles name) (port_roles (map (feature_view kept_place) (drop l.port-index l.ports)) name)
