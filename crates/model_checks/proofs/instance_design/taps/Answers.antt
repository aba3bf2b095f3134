use Rattle.std.proofs.Common.{◌∙◌, sym}
use Rattle.design_laws.specs.InstanceDesigns.{tap_in}
use Rattle.model_checks.proofs.ListsOfOptions.{one_more, one_missing}
use Rattle.model_checks.proofs.instance_design.taps.Goals as goal

pub loop-chain-preserved : goal.loop-chain-preserved
loop-chain-preserved c =
    one_more tap_in c.args.chains.now c.loop-chain.chain-index c.chain-item.result c.loop-chain.taps _ c.in-Some.tap
    c.loop-chain-test.true c.chain-item.is c.loop-chain.invariant
    (sym c.in-Some.is ∙ c.in_ok-tap.ensures) c.in_ok-push.ensures.ok

pub returns-in_default : goal.returns-in_default
returns-in_default c =
    one_missing tap_in c.args.chains.now c.loop-chain.chain-index c.chain-item.result c.loop-chain-test.true
    c.chain-item.is (sym c.in_default.is ∙ c.in_ok-tap.ensures)
