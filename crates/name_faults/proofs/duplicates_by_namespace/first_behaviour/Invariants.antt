use Rattle.std.proofs.Common.{◌≡◌, map, drop}
use Rattle.aadl_tree.specs.proof.AnnexViews.{annex_view}
use Rattle.aadl_tree.specs.proof.PlaceMaps.{kept_place}
use Rattle.aadl_names.specs.BehaviourAnnexes.{behaviours, first_behaviour}
use Rattle.name_faults.proofs.duplicates_by_namespace.first_behaviour.Given as goal

-- no behaviour precedes the remaining annexes
abbrev pub invariant-loop-annex : goal.invariant-loop-annex
invariant-loop-annex l =
    first_behaviour (behaviours (map (annex_view kept_place) l.annexes))
    ≡ first_behaviour (behaviours (map (annex_view kept_place) (drop l.annex-index l.annexes)))
