use Rattle.aadl_tree.specs.proof.PackageViews.{placed}
use Rattle.aadl_chains.proofs.LinkLimits.{links_both}
use Rattle.aadl_chains.proofs.link_limit.links_below.Goals as goal

pub returns : goal.returns
returns c =
    links_both (placed c.args.wires.now.uses.names.tree.now) c.args.limit c.args.number c.links_deeper-deeper.result
    c.links_carried-carried.result c.add_up_to.result
    c.links_deeper-deeper.ensures c.links_carried-carried.ensures c.add_up_to.ensures
