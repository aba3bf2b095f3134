use Rattle.std.proofs.Common.{◌≡◌, map, take}
use Rattle.aadl_tree.specs.proof.PackageViews.{placed}
use Rattle.aadl_tree.specs.proof.PlaceMaps.{kept_place}
use Rattle.aadl_tree.specs.proof.DeclarationViews.{declaration_view}
use Rattle.aadl_uses.specs.proof.PackageContainment.{targets_in}
use Rattle.aadl_uses.proofs.resolved_package.containment_of.Given as goal

abbrev pub invariant-loop-declaration : goal.invariant-loop-declaration
invariant-loop-declaration l = l.graph ≡ map (targets_in (placed l.names.tree.now))
    (map (declaration_view kept_place) (take l.declaration-index l.declarations))
