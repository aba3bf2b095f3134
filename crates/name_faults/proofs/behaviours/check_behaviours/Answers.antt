use Rattle.std.proofs.Common.{map, ap, ◌∙◌}
use Rattle.aadl_tree.specs.proof.PackageViews.{placed}
use Rattle.aadl_tree.specs.proof.DeclarationViews.{implementation_view}
use Rattle.aadl_tree.specs.proof.AnnexViews.{annex_view}
use Rattle.aadl_tree.specs.proof.PlaceMaps.{kept_place}
use Rattle.aadl_names.specs.proof.FirstFaultSoFar.{found}
use Rattle.aadl_names.specs.BehaviourAnnexes.{behaviours}
use Rattle.aadl_names.specs.PackageNameFaults.{annex_faults}
use Rattle.name_faults.proofs.AnnexFaults.{next_annex, last_annex, as_annexes}
use Rattle.name_faults.proofs.behaviours.check_behaviours.Goals as goal

pub loop-annex-preserved : goal.loop-annex-preserved
loop-annex-preserved c =
    next_annex (annex_view kept_place) (placed c.args.typed.now.tree.now)
    (implementation_view kept_place c.args.typed.now.implementation.now) _ _
    c.annex-item.result
    c.loop-annex.expected _ _ _ _
    c.loop-annex-test.true c.annex-item.is c.loop-annex.invariant c.in_ok-check_annex.ensures
    c.still_expected-expected.ensures

pub returns : goal.returns
returns c =
    let tree = placed c.args.typed.now.tree.now in
    let x = implementation_view kept_place c.args.typed.now.implementation.now in
    last_annex (annex_view kept_place) tree x _ _ c.loop-annex.expected _ _ c.loop-annex-test.false
    c.loop-annex.invariant
    ∙ ap (found c.args.finder.now)
    (as_annexes tree x (behaviours (map (annex_view kept_place) c.deref-annex-items.result.now))
    ∙ ap (λ annexes. annex_faults tree x (behaviours (map (annex_view kept_place) annexes)))
    c.deref-annex-items.ensures.value)
