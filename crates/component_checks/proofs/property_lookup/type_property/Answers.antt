use Rattle.std.proofs.Common.{◌∙◌, sym, ap}
use Rattle.aadl_tree.specs.proof.PlaceMaps.{kept_place}
use Rattle.aadl_tree.specs.proof.PackageViews.{placed}
use Rattle.aadl_tree.specs.proof.ValueViews.{associations_view}
use Rattle.aadl_names.specs.RecognisedProperties.{association_named, name_of}
use Rattle.aadl_names.specs.NameResolution.{type_numbered}
use Rattle.component_checks.specs.PropertyLookup.{type_lists, first_in}
use Rattle.component_checks.proofs.NamedAssociations.{first_of_one}
use Rattle.component_checks.proofs.property_lookup.type_property.Goals as goal

pub returns-in-Some : goal.returns-in-Some
returns-in-Some c =
    let tree = placed c.args.uses.now.names.tree.now in
    c.property_in.ensures ∙ ap (λ l. association_named (associations_view kept_place l) (name_of c.args.property))
    c.as_slice.ensures.value
    ∙ sym (first_of_one c.args.property (associations_view kept_place c.in-Some.of_type.now.properties.items))
    ∙ ap (λ t. first_in c.args.property (type_lists t))
    (c.in-Some.ensures ∙ ap (type_numbered tree) c.type_number.ensures)

pub returns-in-None : goal.returns-in-None
returns-in-None c =
    ap (λ t. first_in c.args.property (type_lists t))
    (c.in-None.ensures ∙ ap (type_numbered (placed c.args.uses.now.names.tree.now)) c.type_number.ensures)
