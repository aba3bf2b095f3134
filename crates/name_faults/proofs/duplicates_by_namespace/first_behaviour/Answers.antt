use Rattle.std.proofs.Common.{sym}
use Rattle.name_faults.proofs.FirstBehaviours.{here_first, none_first}
use Rattle.name_faults.proofs.duplicates_by_namespace.first_behaviour.Goals as goal

pub loop-annex-preserved : goal.loop-annex-preserved
loop-annex-preserved c =
    here_first c.args.annexes.now c.loop-annex.annex-index c.annex-item.result _ _ c.loop-annex-test.true
    c.annex-item.is
    c.in-Unread.is c.loop-annex.invariant

pub returns-in-Behaviour : goal.returns-in-Behaviour
returns-in-Behaviour c =
    sym (here_first c.args.annexes.now c.loop-annex.annex-index c.annex-item.result _ _ c.loop-annex-test.true
    c.annex-item.is
    c.in-Behaviour.is c.loop-annex.invariant)

pub returns : goal.returns
returns c = none_first c.args.annexes.now c.loop-annex.annex-index _ c.loop-annex-test.false c.loop-annex.invariant
