use Rattle.std.proofs.Common.{◌∙◌, ap, length}
use Rattle.std.proofs.lemmas.List.{length-map}
use Rattle.aadl_tree.specs.proof.PackageViews.{placed}
use Rattle.aadl_uses.specs.proof.PackageContainment.{targets_in}
use Rattle.aadl_uses.proofs.resolved_package.Uses.len.Goals as goal

pub returns : goal.returns
returns c =
    let tree = placed c.args.self.now.names.tree.now in
    c.len.ensures ∙ (ap length c.args.self.now.of_subs ∙ length-map tree.declarations (targets_in tree))
