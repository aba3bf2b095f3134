use Rattle.std.proofs.Common.{◌∙◌, sym}
use Rattle.aadl_tree.specs.proof.PackageViews.{placed}
use Rattle.design_laws.specs.InstanceDesigns.{feed_in}
use Rattle.model_checks.proofs.ListsOfOptions.{one_more, one_missing}
use Rattle.model_checks.proofs.instance_design.feeds.Goals as goal

pub loop-chain-preserved : goal.loop-chain-preserved
loop-chain-preserved c =
    one_more (feed_in (placed c.args.properties.now.uses.now.names.tree.now)) c.args.chains.now c.loop-chain.chain-index
    c.chain-item.result c.loop-chain.feeds _ c.in-Some.feed c.loop-chain-test.true c.chain-item.is
    c.loop-chain.invariant
    (sym c.in-Some.is ∙ c.in_ok-feed.ensures) c.in_ok-push.ensures.ok

pub returns-in_default : goal.returns-in_default
returns-in_default c =
    one_missing (feed_in (placed c.args.properties.now.uses.now.names.tree.now)) c.args.chains.now
    c.loop-chain.chain-index c.chain-item.result c.loop-chain-test.true c.chain-item.is
    (sym c.in_default.is ∙ c.in_ok-feed.ensures)
