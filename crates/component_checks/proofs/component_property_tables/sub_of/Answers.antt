use Rattle.std.proofs.Common.{[], ◌∷◌, ◌∙◌, ap}
use Rattle.aadl_tree.specs.proof.PlaceMaps.{kept_place}
use Rattle.aadl_tree.specs.proof.PackageViews.{placed}
use Rattle.aadl_tree.specs.proof.ValueViews.{associations_view}
use Rattle.aadl_tree.specs.proof.DeclarationViews.{subcomponent_view}
use Rattle.component_checks.specs.PropertyLookup.{sub_lists}
use Rattle.component_checks.specs.proof.ComponentProperties.{timed_by}
use Rattle.component_checks.proofs.PropertiesByNumber.{sub_is}
use Rattle.component_checks.proofs.component_property_tables.sub_of.Goals as goal

pub returns-in_default : goal.returns-in_default
returns-in_default c =
    c.none.ensures ∙ ap (λ o. timed_by (sub_lists (placed c.args.uses.now.names.tree.now) o)) c.in_default.ensures

pub returns : goal.returns
returns c =
    sub_is (placed c.args.uses.now.names.tree.now) c.args.at (subcomponent_view kept_place c.in-Some.sub.now) _ _ _ _ _
    c.requires c.in-Some.ensures c.below.ensures
    (c.of-said.ensures ∙ ap (λ l. timed_by (associations_view kept_place l ∷ [])) c.as_slice.ensures.value)
    c.numbered.ensures c.or.ensures
