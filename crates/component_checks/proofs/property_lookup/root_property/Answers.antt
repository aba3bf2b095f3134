use Rattle.std.proofs.Common.{◌∙◌, Some, None, ap}
use Rattle.aadl_tree.specs.proof.PlaceMaps.{kept_place}
use Rattle.aadl_tree.specs.proof.PackageViews.{placed}
use Rattle.aadl_tree.specs.proof.ValueViews.{association_view, associations_view}
use Rattle.aadl_tree.specs.proof.DeclarationViews.{implementation_view}
use Rattle.aadl_names.specs.RecognisedProperties.{association_named, name_of}
use Rattle.component_checks.specs.PropertyLookup.{own_lists, first_in}
use Rattle.component_checks.proofs.NamedAssociations.{root_given}
use Rattle.component_checks.proofs.property_lookup.root_property.Goals as goal

pub returns-in_default : goal.returns-in_default
returns-in_default c =
    ap (λ o. first_in c.args.property (own_lists (placed c.args.uses.now.names.tree.now) o)) c.in_default.ensures

pub returns-in-Some-property_in : goal.returns-in-Some-property_in
returns-in-Some-property_in c =
    root_given (placed c.args.uses.now.names.tree.now) c.args.root c.args.property
    (implementation_view kept_place c.in-Some.x.now)
    (Some (association_view kept_place c.in-Some-property_in.found.now)) c.in-Some.ensures
    (c.in-Some-property_in.ensures
    ∙ ap (λ l. association_named (associations_view kept_place l) (name_of c.args.property))
    c.as_slice.ensures.value)

pub returns-in-None : goal.returns-in-None
returns-in-None c =
    c.type_property.ensures
    ∙ root_given (placed c.args.uses.now.names.tree.now) c.args.root c.args.property
    (implementation_view kept_place c.in-Some.x.now) None c.in-Some.ensures
    (c.in-None.ensures ∙ ap (λ l. association_named (associations_view kept_place l) (name_of c.args.property))
    c.as_slice.ensures.value)
