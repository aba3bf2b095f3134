use Rattle.std.proofs.Common.{◌∙◌, ap}
use Rattle.aadl_tree.specs.proof.PackageViews.{placed}
use Rattle.aadl_uses.specs.proof.ContainmentGraphs.{Graph, below_in}
use Rattle.aadl_uses.proofs.PackageContainment.{below-same}
use Rattle.aadl_uses.proofs.resolved_package.Uses.below.Goals as goal

pub returns : goal.returns
returns c = c.below.ensures ∙ (ap (λ (g : Graph). below_in g c.args.number c.args.sub) c.args.self.now.of_subs
    ∙ below-same (placed c.args.self.now.names.tree.now) c.args.number c.args.sub)
