use Rattle.std.proofs.Common.{◌∙◌, ap, sym, map, List}
use Rattle.aadl_tree.specs.proof.PackageViews.{placed}
use Rattle.aadl_tree.specs.proof.PlaceMaps.{kept_place}
use Rattle.aadl_tree.specs.proof.DeclarationViews.{declaration_view, subcomponent_view}
use Rattle.aadl_names.specs.NameResolution.{referred}
use Rattle.aadl_uses.specs.proof.PackageContainment.{targets_in}
use Rattle.aadl_uses.proofs.PackageContainment.{ok_items}
use Rattle.aadl_uses.proofs.resolved_package.targets_of.Goals as goal

pub returns-in-Implementation : goal.returns-in-Implementation
returns-in-Implementation c =
    let tree = placed c.args.names.now.tree.now in
    ok_items (λ v. v.items) c.targets_of_subs.result _ _
    (ap (λ (l : List _). map (λ sub. referred tree sub.classifier) (map (subcomponent_view kept_place) l))
    c.as_slice.ensures.value
    ∙ sym (ap (λ d. targets_in tree (declaration_view kept_place d)) c.in-Implementation.is))
    c.targets_of_subs.ensures
