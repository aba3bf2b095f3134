use Rattle.node_threads.proofs.NextReadings.{meeting_looks}
use Rattle.node_threads.proofs.course.SharedRun.meet.Goals as goal

pub returns-in-Go : goal.returns-in-Go
returns-in-Go c =
    meeting_looks c.self.inside.bus c.self.inside.lists c.self.inside.notes _ c.args.node c.args.next c.in-Go.reading
    c.self.view_is c.self.invariant c.requires.meeting c.requires.is_open c.requires.next c.in-Go.ensures.answer
