use Rattle.std.proofs.Common.{◌≡◌, map, drop}
use Rattle.std.specs.List.{flat_map, enumerate_from}
use Rattle.aadl_tree.specs.proof.PackageViews.{placed}
use Rattle.aadl_tree.specs.proof.DeclarationViews.{declaration_view}
use Rattle.aadl_tree.specs.proof.PlaceMaps.{kept_place}
use Rattle.aadl_names.specs.proof.FirstFaultSoFar.{found}
use Rattle.aadl_names.specs.PackageNameFaults.{declaration_faults}
use Rattle.name_faults.proofs.declarations.check_declarations.Given as goal

-- the remaining part is still to be checked
abbrev pub invariant-loop-number : goal.invariant-loop-number
invariant-loop-number l =
    found l.initial.finder (flat_map (declaration_faults (placed l.wires.uses.names.tree.now) l.root)
    (enumerate_from 0 (map (declaration_view kept_place) l.declaration-items)))
    ≡ found l.finder (flat_map (declaration_faults (placed l.wires.uses.names.tree.now) l.root)
    (enumerate_from l.number (map (declaration_view kept_place) (drop l.number l.declaration-items))))
