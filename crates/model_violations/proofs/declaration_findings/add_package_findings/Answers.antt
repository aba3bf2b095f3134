use Rattle.std.proofs.Common.{◌<◌, ◌∙◌, length, get_or, refl, ap, arith}
use Rattle.std.specs.Prelude.{option_map}
use Rattle.std.proofs.lemmas.Option.{slice_get-map, slice_get_read}
use Rattle.aadl_tree.specs.proof.PlaceMaps.{kept_place}
use Rattle.aadl_tree.specs.proof.PackageViews.{placed}
use Rattle.aadl_tree.specs.proof.DeclarationViews.{declaration_view}
use Rattle.model_violations.specs.ConnectionsAndCarriers.{carries}
use Rattle.component_checks.proofs.EnumeratedLists.{one_more}
use Rattle.model_violations.specs.UsedDeclarations.{has}
use Rattle.model_violations.specs.DeclarationFindings.{declaration_findings}
use Rattle.model_violations.proofs.declaration_findings.add_package_findings.Goals as goal

pub add_declaration_findings-requires-clause-number : goal.add_declaration_findings-requires-clause-number
add_declaration_findings-requires-clause-number c =
    let items = c.args.in_use.now.wires.now.uses.names.tree.now.declarations.items in
    let within : c.loop-number.number < length items =
    omega (arith, ap length c.deref-declaration-items.ensures.value) in
    slice_get-map (declaration_view kept_place) items c.loop-number.number
    ∙ ap (option_map (declaration_view kept_place))
    (slice_get_read items (length items) c.loop-number.number c.declaration-item.result refl within
    (c.declaration-item.is ∙ ap (λ l. get_or l c.loop-number.number c.declaration-item.result)
    c.deref-declaration-items.ensures.value))

pub loop-number-preserved : goal.loop-number-preserved
loop-number-preserved c =
    let items = c.args.in_use.now.wires.now.uses.names.tree.now.declarations.items in
    let within : c.loop-number.number < length items =
    omega (arith, ap length c.deref-declaration-items.ensures.value) in
    one_more (declaration_findings (placed c.args.in_use.now.wires.now.uses.names.tree.now) c.args.in_use.now.root
    (has c.args.in_use.now.implementations.now.keys) (has c.args.in_use.now.types.now.keys)
    (carries c.args.in_use.now.carriers.now))
    (declaration_view kept_place) items
    c.loop-number.number
    c.declaration-item.result c.args.found.now _ _ within
    (c.declaration-item.is ∙ ap (λ l. get_or l c.loop-number.number c.declaration-item.result)
    c.deref-declaration-items.ensures.value) c.loop-number.invariant
    c.in_ok-add_declaration_findings.ensures
