use Rattle.std.proofs.Common.{◌≡◌, map, take}
use Rattle.aadl_tree.specs.proof.PlaceMaps.{kept_place}
use Rattle.aadl_tree.specs.proof.AnnexViews.{transition_view}
use Rattle.annex_resolve.specs.BehavioursAndFindings.{departure_of}
use Rattle.annex_resolve.proofs.outgoing_transitions.departures_of.Given as goal

abbrev pub invariant-loop-transition : goal.invariant-loop-transition
invariant-loop-transition l =
    l.legs ≡ map (departure_of l.states) (map (transition_view kept_place) (take l.transition-index l.transitions))
