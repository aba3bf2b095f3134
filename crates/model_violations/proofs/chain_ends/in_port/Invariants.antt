use Rattle.std.proofs.Common.{◌≡◌, map, filter, drop}
use Rattle.std.specs.Prelude.{slice_get}
use Rattle.aadl_tree.specs.proof.DeclarationViews.{feature_view}
use Rattle.aadl_tree.specs.proof.PlaceMaps.{kept_place}
use Rattle.component_checks.specs.TypeFindings.{is_in}
use Rattle.model_violations.proofs.chain_ends.in_port.Given as goal

-- `left` more in ports among the remaining ports are still to be passed
abbrev pub invariant-loop-port : goal.invariant-loop-port
invariant-loop-port l =
    slice_get (filter is_in (map (feature_view kept_place) (drop l.port-index l.ports))) l.left
    ≡ slice_get (filter is_in (map (feature_view kept_place) l.ports)) l.number
