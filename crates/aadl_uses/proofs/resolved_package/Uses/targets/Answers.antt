use Rattle.std.proofs.Common.{◌∙◌, ap}
use Rattle.aadl_tree.specs.proof.PackageViews.{placed}
use Rattle.aadl_uses.specs.proof.ContainmentGraphs.{Graph, targets_in}
use Rattle.aadl_uses.proofs.PackageContainment.{row}
use Rattle.aadl_uses.proofs.resolved_package.Uses.targets.Goals as goal

pub returns : goal.returns
returns c =
    let tree = placed c.args.self.now.names.tree.now in
    c.targets.ensures ∙ (ap (λ (g : Graph). targets_in g c.args.number) c.args.self.now.of_subs
    ∙ row tree tree.declarations c.args.number)
