use Rattle.std.proofs.Common.{◌≡◌, map, drop}
use Rattle.std.specs.List.{flat_map}
use Rattle.aadl_tree.specs.proof.PackageViews.{placed}
use Rattle.aadl_tree.specs.proof.DeclarationViews.{subcomponent_view}
use Rattle.aadl_tree.specs.proof.PlaceMaps.{kept_place}
use Rattle.aadl_names.specs.proof.FirstFaultSoFar.{found}
use Rattle.aadl_names.specs.PackageNameFaults.{subcomponent_faults}
use Rattle.name_faults.proofs.subcomponents.check_subcomponents.Given as goal

-- the remaining part is still to be checked
abbrev pub invariant-loop-place : goal.invariant-loop-place
invariant-loop-place l =
    found l.initial.finder (flat_map (subcomponent_faults (placed l.uses.names.tree.now) l.x.category)
    (map (subcomponent_view kept_place) l.sub-items))
    ≡ found l.finder (flat_map (subcomponent_faults (placed l.uses.names.tree.now) l.x.category)
    (map (subcomponent_view kept_place) (drop l.place l.sub-items)))
