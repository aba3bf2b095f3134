use Rattle.std.proofs.Common.{◌≡◌, map, take}
use Rattle.aadl_tree.specs.proof.PlaceMaps.{kept_place}
use Rattle.aadl_tree.specs.proof.DeclarationViews.{subcomponent_view}
use Rattle.aadl_instance.specs.proof.PathLengths.{weight_of}
use Rattle.aadl_instance.proofs.longest_path.weights_of.Given as goal

abbrev pub invariant-loop-sub : goal.invariant-loop-sub
invariant-loop-sub l = l.row.items ≡ map weight_of (map (subcomponent_view kept_place) (take l.sub-index l.subs))
