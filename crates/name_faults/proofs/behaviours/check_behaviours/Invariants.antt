use Rattle.std.proofs.Common.{◌≡◌, map, drop}
use Rattle.aadl_tree.specs.proof.PackageViews.{placed}
use Rattle.aadl_tree.specs.proof.DeclarationViews.{implementation_view}
use Rattle.aadl_tree.specs.proof.AnnexViews.{annex_view}
use Rattle.aadl_tree.specs.proof.PlaceMaps.{kept_place}
use Rattle.aadl_names.specs.proof.FirstFaultSoFar.{found}
use Rattle.aadl_names.specs.BehaviourAnnexes.{behaviours}
use Rattle.aadl_names.specs.NameResolution.{is_thread}
use Rattle.name_faults.specs.proof.AnnexFaults.{behaviours_left}
use Rattle.name_faults.proofs.behaviours.check_behaviours.Given as goal

-- the remaining part is still to be checked
abbrev pub invariant-loop-annex : goal.invariant-loop-annex
invariant-loop-annex l =
    found l.initial.finder (behaviours_left (placed l.typed.tree.now)
    (implementation_view kept_place l.typed.implementation.now)
    (is_thread l.typed.implementation.now.category)
    (behaviours (map (annex_view kept_place) l.annex-items)))
    ≡ found l.finder (behaviours_left (placed l.typed.tree.now)
    (implementation_view kept_place l.typed.implementation.now) l.expected
    (behaviours (map (annex_view kept_place) (drop l.annex-index l.annex-items))))
