use Rattle.std.proofs.Common.{◌∙◌, map, ap, refl, arith}
use Rattle.std.proofs.lemmas.List.{take_all}
use Rattle.aadl_tree.specs.proof.PackageViews.{placed}
use Rattle.aadl_names.specs.NameResolution.{implementation_in, subcomponents_of}
use Rattle.component_checks.specs.proof.ComponentProperties.{sub_timed, subs_timed}
use Rattle.component_checks.proofs.EnumeratedLists.{made_next}
use Rattle.component_checks.proofs.component_property_tables.all_of_subs.Goals as goal

pub loop-declaration-preserved : goal.loop-declaration-preserved
loop-declaration-preserved c =
    let tree = placed c.args.uses.now.names.tree.now in
    let size = c.len-declaration-end.ensures in
    made_next (subs_timed tree) (λ d. map (sub_timed tree) (subcomponents_of (implementation_in d))) tree.declarations
    c.loop-declaration.declaration c.loop-declaration.subs _ _ (λ d. refl)
    (omega (arith, size, c.loop-declaration-test.true)) c.loop-declaration.invariant c.in_ok-subs_of.ensures
    c.in_ok-push.ensures.ok

pub returns : goal.returns
returns c =
    let tree = placed c.args.uses.now.names.tree.now in
    let size = c.len-declaration-end.ensures in
    c.loop-declaration.invariant
    ∙ ap (map (subs_timed tree))
    (take_all c.loop-declaration.declaration tree.declarations (omega (arith, size, c.loop-declaration-test.false)))
