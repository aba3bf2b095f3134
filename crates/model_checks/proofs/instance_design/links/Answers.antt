use Rattle.std.proofs.Common.{◌∙◌, sym}
use Rattle.aadl_tree.specs.proof.PackageViews.{placed}
use Rattle.design_laws.specs.InstanceDesigns.{link_in}
use Rattle.model_checks.proofs.ListsOfOptions.{one_more, one_missing}
use Rattle.model_checks.proofs.instance_design.links.Goals as goal

pub loop-chain-preserved : goal.loop-chain-preserved
loop-chain-preserved c =
    one_more (link_in (placed c.args.properties.now.uses.now.names.tree.now)) c.args.chains.now c.loop-chain.chain-index
    c.chain-item.result c.loop-chain.links _ c.in-Some.link c.loop-chain-test.true c.chain-item.is
    c.loop-chain.invariant
    (sym c.in-Some.is ∙ c.link.ensures) c.in_ok-push.ensures.ok

pub returns-in_default : goal.returns-in_default
returns-in_default c =
    one_missing (link_in (placed c.args.properties.now.uses.now.names.tree.now)) c.args.chains.now
    c.loop-chain.chain-index c.chain-item.result c.loop-chain-test.true c.chain-item.is
    (sym c.in_default.is ∙ c.link.ensures)
