use Rattle.annex_resolve.specs.BehavioursAndFindings.{state_rules}
use Rattle.annex_resolve.proofs.AnnexFindings.{one_more_state}
use Rattle.annex_resolve.proofs.state_rules.add_states.Goals as goal

pub loop-number-preserved : goal.loop-number-preserved
loop-number-preserved c =
    one_more_state (state_rules c.args.graph.now.parts.now c.args.graph.now.legs.now c.args.graph.now.cyclic.now)
    c.args.states.now
    c.loop-number.number c.index-states-number.result c.args.found.now _ _ c.loop-number-test.true
    c.index-states-number.is c.loop-number.invariant c.in_ok-add_state.ensures
