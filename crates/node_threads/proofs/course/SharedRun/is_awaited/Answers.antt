use Rattle.std.proofs.Common.{◌≤◌, ◌∙◌, length, sym, arith}
use Rattle.std.proofs.lemmas.Grind.{common_steps}
use Rattle.node_threads.proofs.SentSources.{all_awaited, meeting_awaited, one_more}
use Rattle.node_threads.proofs.course.SharedRun.is_awaited.Goals as goal

pub returns-then-meeting : goal.returns-then-meeting
returns-then-meeting c =
    λ is. meeting_awaited c.self.inside.bus c.self.inside.lists c.self.inside.notes _ c.args.node.0 c.self.view_is
    (sym c.meeting.ensures ∙ c.if-meeting.true)

pub loop-number-preserved : goal.loop-number-preserved
loop-number-preserved c =
    one_more c.args.self.now c.args.node.0 c.loop-number.number c.loop-number.invariant
    (c.is_sent_on.ensures c.if-not-is_sent_on.false)

pub returns : goal.returns
returns c = λ is. all_awaited c.args.self.now c.args.node.0 (λ k within.
    let past : length c.args.self.now.bus.run.design.links ≤ c.loop-number.number = grind (arith, common_steps) in
    c.loop-number.invariant k (omega arith))
