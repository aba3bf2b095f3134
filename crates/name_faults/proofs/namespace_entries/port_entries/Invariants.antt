use Rattle.std.proofs.Common.{◌≡◌, ◌++◌, map, drop}
use Rattle.aadl_tree.specs.proof.DeclarationViews.{feature_view}
use Rattle.aadl_tree.specs.proof.PlaceMaps.{kept_place}
use Rattle.aadl_names.specs.DuplicatesByNamespace.{port_entries}
use Rattle.name_faults.proofs.namespace_entries.port_entries.Given as goal

-- the remaining part is still to be added
abbrev pub invariant-loop-port : goal.invariant-loop-port
invariant-loop-port l =
    port_entries (map (feature_view kept_place) l.ports)
    ≡ l.entries ++ port_entries (map (feature_view kept_place) (drop l.port-index l.ports))
