use Rattle.std.proofs.Common.{◌≡◌, map, drop}
use Rattle.std.specs.List.{flat_map}
use Rattle.aadl_tree.specs.proof.AnnexViews.{transition_view}
use Rattle.aadl_tree.specs.proof.PlaceMaps.{kept_place}
use Rattle.aadl_names.specs.proof.FirstFaultSoFar.{found}
use Rattle.aadl_names.specs.PackageNameFaults.{transition_uses}
use Rattle.name_faults.specs.proof.BehaviourScopes.{known_by, is_state_by}
use Rattle.name_faults.proofs.transitions.check_transitions.Given as goal

-- the remaining part is still to be checked
abbrev pub invariant-loop-transition : goal.invariant-loop-transition
invariant-loop-transition l =
    found l.initial.finder (flat_map (transition_uses (is_state_by l.states) (known_by l.scope))
    (map (transition_view kept_place) l.transitions))
    ≡ found l.finder (flat_map (transition_uses (is_state_by l.states) (known_by l.scope))
    (map (transition_view kept_place) (drop l.transition-index l.transitions)))
