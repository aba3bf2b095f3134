use Rattle.std.proofs.Common.{◌∙◌, ap}
use Rattle.aadl_tree.specs.proof.PackageViews.{placed}
use Rattle.aadl_names.specs.NameResolution.{implementation_at}
use Rattle.aadl_names.specs.PackageNameFaults.{is_same_number}
use Rattle.name_faults.proofs.NumberedImplementations.{of_root}
use Rattle.name_faults.proofs.declarations.is_root_type.Goals as goal

pub returns-in-Some : goal.returns-in-Some
returns-in-Some c =
    let tree = placed c.args.uses.now.names.tree.now in
    ap (λ o. is_same_number o c.args.number) (c.in-Some.ensures ∙ of_root tree (implementation_at tree c.args.root))

pub returns-in-None : goal.returns-in-None
returns-in-None c =
    let tree = placed c.args.uses.now.names.tree.now in
    ap (λ o. is_same_number o c.args.number) (c.in-None.ensures ∙ of_root tree (implementation_at tree c.args.root))
