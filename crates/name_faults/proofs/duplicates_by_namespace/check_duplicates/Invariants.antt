use Rattle.std.proofs.Common.{◌≡◌, map, drop}
use Rattle.std.specs.List.{flat_map}
use Rattle.aadl_tree.specs.proof.PackageViews.{placed}
use Rattle.aadl_tree.specs.proof.DeclarationViews.{declaration_view}
use Rattle.aadl_tree.specs.proof.PlaceMaps.{kept_place}
use Rattle.aadl_names.specs.proof.FirstFaultSoFar.{found}
use Rattle.aadl_names.specs.proof.DuplicatesBesidePorts.{beside_in}
use Rattle.name_faults.proofs.duplicates_by_namespace.check_duplicates.Given as goal

-- the remaining part is still to be checked
abbrev pub invariant-loop-number : goal.invariant-loop-number
invariant-loop-number l =
    found l.initial.finder (flat_map (beside_in (placed l.uses.names.tree.now))
    (map (declaration_view kept_place) l.declaration-items))
    ≡ found l.finder (flat_map (beside_in (placed l.uses.names.tree.now))
    (map (declaration_view kept_place) (drop l.number l.declaration-items)))
