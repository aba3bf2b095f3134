use Rattle.std.proofs.Common.{◌∙◌, refl, sym, ap, map}
use Rattle.std.specs.Prelude.{slice_get}
use Rattle.std.specs.List.{flat_map}
use Rattle.aadl_tree.specs.proof.PackageViews.{placed}
use Rattle.aadl_tree.specs.proof.DeclarationViews.{implementation_view, subcomponent_view}
use Rattle.aadl_tree.specs.proof.PlaceMaps.{kept_place}
use Rattle.aadl_names.specs.proof.FirstFaultSoFar.{found}
use Rattle.aadl_names.specs.PackageNameFaults.{subcomponent_faults}
use Rattle.aadl_names.proofs.FirstFaultSoFar.{next_found, last_found}
use Rattle.name_faults.proofs.FaultsByDeclaration.{numbered}
use Rattle.name_faults.proofs.NumberedImplementations.{below_is}
use Rattle.name_faults.proofs.subcomponents.check_subcomponents.Goals as goal

pub check_subcomponent-requires : goal.check_subcomponent-requires
check_subcomponent-requires c =
    c.below.ensures
    ∙ below_is (placed c.args.uses.now.names.tree.now) c.args.number
    (implementation_view kept_place c.args.x.now) c.requires
    c.loop-place.place (subcomponent_view kept_place c.sub-item.result)
    (ap (λ items. slice_get (map (subcomponent_view kept_place) items) c.loop-place.place)
    (sym c.deref-sub-items.ensures.value)
    ∙ numbered (subcomponent_view kept_place) c.deref-sub-items.result.now c.loop-place.place c.sub-item.result
    c.loop-place-test.true c.sub-item.is)

pub loop-place-preserved : goal.loop-place-preserved
loop-place-preserved c =
    let faults = subcomponent_faults (placed c.args.uses.now.names.tree.now) c.args.x.now.category in
    next_found (λ xs. flat_map faults (map (subcomponent_view kept_place) xs))
    (λ x. faults (subcomponent_view kept_place x)) (λ x xs. refl) _ _ _ _ _ _
    c.loop-place-test.true c.sub-item.is c.loop-place.invariant c.in_ok-check_subcomponent.ensures

pub returns : goal.returns
returns c =
    let faults = subcomponent_faults (placed c.args.uses.now.names.tree.now) c.args.x.now.category in
    last_found (λ xs. flat_map faults (map (subcomponent_view kept_place) xs)) _ _ _ _ c.loop-place-test.false refl
    c.loop-place.invariant
    ∙ ap (λ subs. found c.args.finder.now (flat_map faults (map (subcomponent_view kept_place) subs)))
    c.deref-sub-items.ensures.value
