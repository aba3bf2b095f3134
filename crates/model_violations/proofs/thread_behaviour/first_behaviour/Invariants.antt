use Rattle.std.proofs.Common.{◌≡◌, map, drop}
use Rattle.std.specs.Prelude.{slice_get}
use Rattle.aadl_tree.specs.proof.AnnexViews.{annex_view}
use Rattle.aadl_tree.specs.proof.PlaceMaps.{kept_place}
use Rattle.aadl_names.specs.BehaviourAnnexes.{behaviours}
use Rattle.model_violations.proofs.thread_behaviour.first_behaviour.Given as goal

abbrev pub invariant-loop-annex : goal.invariant-loop-annex
invariant-loop-annex l =
    slice_get (behaviours (map (annex_view kept_place) (drop l.annex-index l.annexes))) 0
    ≡ slice_get (behaviours (map (annex_view kept_place) l.annexes)) 0
