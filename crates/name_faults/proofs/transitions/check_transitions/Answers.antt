use Rattle.std.proofs.Common.{refl, map}
use Rattle.std.specs.List.{flat_map}
use Rattle.aadl_tree.specs.proof.AnnexViews.{transition_view}
use Rattle.aadl_tree.specs.proof.PlaceMaps.{kept_place}
use Rattle.aadl_names.specs.PackageNameFaults.{transition_uses}
use Rattle.aadl_names.proofs.FirstFaultSoFar.{next_found}
use Rattle.name_faults.specs.proof.BehaviourScopes.{known_by, is_state_by}
use Rattle.name_faults.proofs.transitions.check_transitions.Goals as goal

pub loop-transition-preserved : goal.loop-transition-preserved
loop-transition-preserved c =
    next_found (λ xs. flat_map (transition_uses (is_state_by c.args.states.now) (known_by c.args.scope.now))
    (map (transition_view kept_place) xs))
    (λ x. transition_uses (is_state_by c.args.states.now) (known_by c.args.scope.now) (transition_view kept_place x))
    (λ x xs. refl) _ _ _ _ _ _
    c.loop-transition-test.true c.transition-item.is c.loop-transition.invariant c.in_ok-check_transition.ensures
