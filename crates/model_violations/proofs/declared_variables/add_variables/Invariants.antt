use Rattle.std.proofs.Common.{◌≡◌, ◌++◌, ◌∷◌, map, take}
use Rattle.aadl_tree.specs.proof.NameViews.{identifier_view}
use Rattle.aadl_tree.specs.proof.PlaceMaps.{kept_place}
use Rattle.model_violations.specs.PortsAndVariables.{variable_of}
use Rattle.model_violations.proofs.declared_variables.add_variables.Given as goal

abbrev pub invariant-loop-name : goal.invariant-loop-name
invariant-loop-name l =
    l.variables ≡ l.fn.variables ++ variable_of l.kind l.first (identifier_view kept_place l.declaration.names.first)
    ∷ map (variable_of l.kind l.first) (map (identifier_view kept_place) (take l.name-index l.name-items))
