use Rattle.std.proofs.Common.{◌∙◌, ℕ, length, map, ap, refl, arith}
use Rattle.std.proofs.lemmas.List.{length-map, take_all}
use Rattle.aadl_tree.specs.Declarations.{Subcomponent}
use Rattle.aadl_tree.specs.proof.PackageViews.{placed}
use Rattle.aadl_names.specs.NameResolution.{implementation_at, subcomponents_of, referred}
use Rattle.component_checks.specs.PropertyLookup.{sub_lists}
use Rattle.component_checks.specs.proof.ComponentProperties.{timed_by, sub_timed}
use Rattle.component_checks.proofs.EnumeratedLists.{made_next}
use Rattle.component_checks.proofs.component_property_tables.subs_of.Goals as goal

pub loop-sub-preserved : goal.loop-sub-preserved
loop-sub-preserved c =
    let tree = placed c.args.uses.now.names.tree.now in
    let subs = subcomponents_of (implementation_at tree c.args.declaration) in
    let size =
    ap length c.targets-sub-end.ensures
    ∙ length-map subs (λ (sub : Subcomponent ℕ). referred tree sub.classifier) in
    made_next (sub_timed tree) (λ sub. timed_by (sub_lists tree sub)) subs c.loop-sub.sub c.loop-sub.timed _ _
    (λ sub. refl)
    (omega (arith, size, c.loop-sub-test.true)) c.loop-sub.invariant c.sub_of.ensures c.in_ok-push.ensures.ok

pub returns : goal.returns
returns c =
    let tree = placed c.args.uses.now.names.tree.now in
    let subs = subcomponents_of (implementation_at tree c.args.declaration) in
    let size =
    ap length c.targets-sub-end.ensures
    ∙ length-map subs (λ (sub : Subcomponent ℕ). referred tree sub.classifier) in
    c.loop-sub.invariant ∙ ap (map (sub_timed tree))
    (take_all c.loop-sub.sub subs (omega (arith, size, c.loop-sub-test.false)))
