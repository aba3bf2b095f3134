use Rattle.std.proofs.Common.{◌∙◌, sym, ap, option_map}
use Rattle.std.specs.Option.{option_and_then}
use Rattle.list_lemmas.proofs.Results.{OnOk-same}
use Rattle.aadl_tree.specs.proof.PackageViews.{placed}
use Rattle.aadl_tree.specs.proof.NameViews.{identifier_view}
use Rattle.aadl_tree.specs.proof.DeclarationViews.{subcomponent_view}
use Rattle.aadl_tree.specs.proof.PlaceMaps.{kept_place}
use Rattle.aadl_names.specs.proof.FirstFaultSoFar.{found}
use Rattle.aadl_names.specs.NameResolution.{implementation_at}
use Rattle.aadl_names.specs.PackageNameFaults.{target_faults, names_faults}
use Rattle.name_faults.proofs.subcomponents.check_target.Goals as goal

pub returns-in-Some : goal.returns-in-Some
returns-in-Some c =
    let tree = placed c.args.tree.now in
    let sub = subcomponent_view kept_place c.args.sub.now in
    OnOk-same c.check_declared.result c.check_declared.new.finder _ _
    (ap (λ t. found c.args.finder.now (target_faults sub t))
    (c.implementation_of.ensures ∙ ap (option_and_then (implementation_at tree)) c.requires)
    ∙ sym (ap (λ i. found c.args.finder.now (names_faults tree sub i))
    (ap (option_map (identifier_view kept_place)) c.in-Some.is)))
    c.check_declared.ensures
