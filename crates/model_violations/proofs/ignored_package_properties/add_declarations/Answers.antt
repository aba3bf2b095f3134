use Rattle.std.proofs.Common.{◌<◌, ◌∙◌, length, get_or, ap, arith}
use Rattle.aadl_tree.specs.proof.DeclarationViews.{declaration_view}
use Rattle.aadl_tree.specs.proof.PlaceMaps.{kept_place}
use Rattle.model_violations.specs.IgnoredProperties.{declaration_ignored}
use Rattle.component_checks.proofs.EnumeratedLists.{one_more}
use Rattle.model_violations.proofs.ignored_package_properties.add_declarations.Goals as goal

pub loop-number-preserved : goal.loop-number-preserved
loop-number-preserved c =
    let within : c.loop-number.number < length c.args.tree.now.declarations.items =
    omega (arith, ap length c.deref-declaration-items.ensures.value) in
    one_more (declaration_ignored c.args.root c.args.root_type) (declaration_view kept_place)
    c.args.tree.now.declarations.items c.loop-number.number c.declaration-item.result c.args.found.now _ _ within
    (c.declaration-item.is ∙ ap (λ l. get_or l c.loop-number.number c.declaration-item.result)
    c.deref-declaration-items.ensures.value) c.loop-number.invariant c.in_ok-add_declaration.ensures
