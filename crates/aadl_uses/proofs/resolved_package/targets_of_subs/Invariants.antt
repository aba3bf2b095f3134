use Rattle.std.proofs.Common.{◌≡◌, map, take}
use Rattle.aadl_tree.specs.proof.PackageViews.{placed}
use Rattle.aadl_tree.specs.proof.PlaceMaps.{kept_place}
use Rattle.aadl_tree.specs.proof.DeclarationViews.{subcomponent_view}
use Rattle.aadl_names.specs.NameResolution.{referred}
use Rattle.aadl_uses.proofs.resolved_package.targets_of_subs.Given as goal

abbrev pub invariant-loop-sub : goal.invariant-loop-sub
invariant-loop-sub l = l.targets.items ≡ map (λ sub. referred (placed l.names.tree.now) sub.classifier)
    (map (subcomponent_view kept_place) (take l.sub-index l.subs))
