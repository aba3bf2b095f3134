use Rattle.std.proofs.Common.{◌≡◌, map, drop}
use Rattle.std.specs.List.{flat_map}
use Rattle.aadl_tree.specs.proof.DeclarationViews.{feature_view}
use Rattle.aadl_tree.specs.proof.PlaceMaps.{kept_place}
use Rattle.aadl_names.specs.proof.FirstFaultSoFar.{found}
use Rattle.aadl_names.specs.DuplicatesByNamespace.{port_entries}
use Rattle.aadl_names.specs.proof.DuplicatesBesidePorts.{beside_each}
use Rattle.name_faults.proofs.duplicates_beside_ports.check_port_duplicates.Given as goal

-- the remaining part is still to be checked
abbrev pub invariant-loop-entry : goal.invariant-loop-entry
invariant-loop-entry l =
    found l.initial.finder (flat_map
    (beside_each (port_entries (map (feature_view kept_place) l.ports)) l.others) l.others)
    ≡ found l.finder (flat_map (beside_each (port_entries (map (feature_view kept_place) l.ports)) l.others)
    (drop l.entry-index l.others))
