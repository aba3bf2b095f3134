use Rattle.std.proofs.Common.{◌≡◌, map, take}
use Rattle.aadl_tree.specs.proof.PlaceMaps.{kept_place}
use Rattle.aadl_tree.specs.proof.DeclarationViews.{declaration_view}
use Rattle.aadl_instance.specs.proof.PathLengths.{weights_in}
use Rattle.aadl_instance.proofs.longest_path.name_weights.Given as goal

abbrev pub invariant-loop-declaration : goal.invariant-loop-declaration
invariant-loop-declaration l =
    l.weights ≡ map weights_in (map (declaration_view kept_place) (take l.declaration-index l.declarations))
