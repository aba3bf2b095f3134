use Rattle.std.proofs.Common.{◌≡◌, ◌++◌, map, take}
use Rattle.aadl_tree.specs.proof.PlaceMaps.{kept_place}
use Rattle.std.specs.Prelude.{flat_map}
use Rattle.aadl_tree.specs.proof.AnnexViews.{transition_view}
use Rattle.annex_resolve.specs.BehavioursAndFindings.{edge_of, transition_findings}
use Rattle.annex_resolve.proofs.transitions.resolve_transitions.Given as goal

abbrev pub invariant-loop-transition : goal.invariant-loop-transition
invariant-loop-transition l =
    (l.edges ≡ map (edge_of l.scope l.states)
    (map (transition_view kept_place) (take l.transition-index l.transitions)))
    × (l.found ≡ l.fn.found ++ flat_map (transition_findings l.scope)
    (map (transition_view kept_place) (take l.transition-index l.transitions)))
