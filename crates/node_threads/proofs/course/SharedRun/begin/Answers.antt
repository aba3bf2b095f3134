use Rattle.node_threads.proofs.ReadyNodeActions.{to_start, to_step, to_send}
use Rattle.node_threads.proofs.course.SharedRun.begin.Goals as goal

pub start-requires-clause-waits : goal.start-requires-clause-waits
start-requires-clause-waits c =
    to_start _ c.args.node c.in-Some.next.action _ c.in-At.reading c.agreement.ensures c.in-At.ensures.answer
    c.in-Start.is

pub step-requires-clause-steps : goal.step-requires-clause-steps
step-requires-clause-steps c =
    to_step _ c.args.node c.in-Some.next.action _ _ c.in-At.reading c.in-At.ensures.answer c.in-Step.is

pub send-requires-clause-sends : goal.send-requires-clause-sends
send-requires-clause-sends c =
    to_send _ c.args.node c.in-Some.next.action _ c.in-At.reading c.in-At.ensures.answer c.in-Send.is
