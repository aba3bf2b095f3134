use Rattle.std.proofs.Common.{◌≡◌, map, take}
use Rattle.std.specs.Prelude.{flat_map}
use Rattle.aadl_tree.specs.proof.AnnexViews.{variable_view}
use Rattle.aadl_tree.specs.proof.PlaceMaps.{kept_place}
use Rattle.model_violations.specs.PortsAndVariables.{variables_in}
use Rattle.model_violations.proofs.declared_variables.variables_of.Given as goal

abbrev pub invariant-loop-declaration : goal.invariant-loop-declaration
invariant-loop-declaration l =
    l.variables ≡ flat_map variables_in (map (variable_view kept_place) (take l.declaration-index l.declaration-items))
