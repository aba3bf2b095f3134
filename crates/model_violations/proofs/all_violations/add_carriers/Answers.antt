use Rattle.model_violations.proofs.ChainCarriers.{carries_next}
use Rattle.model_violations.proofs.all_violations.add_carriers.Goals as goal

pub loop-chain-preserved : goal.loop-chain-preserved
loop-chain-preserved c =
    carries_next c.args.carriers.now c.loop-chain.carriers _ c.args.chains.now c.loop-chain.chain-index
    c.chain-item.result c.loop-chain-test.true c.chain-item.is c.loop-chain.invariant c.in_ok-add.ensures
