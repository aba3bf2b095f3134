use Rattle.std.proofs.Common.{◌∙◌, Some, None, refl, sym, ap}
use Rattle.std.proofs.lemmas.Option.{slice_get_read, slice_get_past}
use Rattle.aadl_tree.specs.declared.declarations.Declaration.TheVariants as declarations
use Rattle.aadl_tree.specs.proof.PackageViews.{placed}
use Rattle.aadl_names.specs.NameResolution.{type_in, type_numbered}
use Rattle.aadl_names.proofs.DeclarationsAndMembers.{declaration_there}
use Rattle.aadl_names.proofs.declarations_by_number.type_numbered.Goals as goal

pub returns-in-Some-Type : goal.returns-in-Some-Type
returns-in-Some-Type c =
    let got = c.in-Some-Type.ensures.lookup in
    sym (ap (type_numbered (placed c.args.tree.now)) c.in_ok-number.was
    ∙ ap type_in (declaration_there c.args.tree.now c.in_ok-number.field-0 c.deref.result.now
    (Some (declarations.Type c.in-Some-Type.x)) c.deref.ensures.value
    (slice_get_read c.deref.result.now _ c.in_ok-number.field-0 c.in-Some-Type.field-0.now refl got.3.0 got.1
    ∙ ap Some c.in-Some-Type.field-0-is)))

pub returns-in-Some-Implementation : goal.returns-in-Some-Implementation
returns-in-Some-Implementation c =
    let got = c.in-Some-Implementation.ensures.lookup in
    sym (ap (type_numbered (placed c.args.tree.now)) c.in_ok-number.was
    ∙ ap type_in (declaration_there c.args.tree.now c.in_ok-number.field-0 c.deref.result.now
    (Some (declarations.Implementation c.in-Some-Implementation.field-0-0)) c.deref.ensures.value
    (slice_get_read c.deref.result.now _ c.in_ok-number.field-0 c.in-Some-Implementation.field-0.now refl got.3.0 got.1
    ∙ ap Some c.in-Some-Implementation.field-0-is)))

pub returns-in-None : goal.returns-in-None
returns-in-None c =
    sym (ap (type_numbered (placed c.args.tree.now)) c.in_ok-number.was
    ∙ ap type_in (declaration_there c.args.tree.now c.in_ok-number.field-0 c.deref.result.now None c.deref.ensures.value
    (slice_get_past c.deref.result.now c.in_ok-number.field-0 c.in-None.ensures.lookup.3)))
