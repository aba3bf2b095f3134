use Rattle.std.proofs.Common.{◌∙◌, map, ap, refl, arith}
use Rattle.std.proofs.lemmas.List.{take_all}
use Rattle.aadl_tree.specs.proof.PackageViews.{placed}
use Rattle.aadl_names.specs.NameResolution.{implementation_in}
use Rattle.component_checks.specs.PropertyLookup.{own_lists}
use Rattle.component_checks.specs.proof.ComponentProperties.{timed_by, own_timed}
use Rattle.component_checks.proofs.EnumeratedLists.{made_next}
use Rattle.component_checks.proofs.component_property_tables.all_own.Goals as goal

pub loop-number-preserved : goal.loop-number-preserved
loop-number-preserved c =
    let tree = placed c.args.uses.now.names.tree.now in
    let size = c.len-number-end.ensures in
    made_next (own_timed tree) (λ d. timed_by (own_lists tree (implementation_in d))) tree.declarations
    c.loop-number.number c.loop-number.own _ _ (λ d. refl)
    (omega (arith, size, c.loop-number-test.true)) c.loop-number.invariant c.own_of.ensures
    c.in_ok-push.ensures.ok

pub returns : goal.returns
returns c =
    let tree = placed c.args.uses.now.names.tree.now in
    let size = c.len-number-end.ensures in
    c.loop-number.invariant ∙ ap (map (own_timed tree))
    (take_all c.loop-number.number tree.declarations (omega (arith, size, c.loop-number-test.false)))
