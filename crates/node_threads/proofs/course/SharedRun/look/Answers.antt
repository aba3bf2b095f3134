use Rattle.std.proofs.Common.{sym, ◌∙◌}
use Rattle.node_threads.proofs.NextReadings.{own_lists}
use Rattle.node_threads.proofs.course.SharedRun.look.Goals as goal

pub pick-requires-clause-lists : goal.pick-requires-clause-lists
pick-requires-clause-lists c =
    own_lists c.self.inside.bus c.self.inside.lists c.self.inside.notes _ c.self.view_is
    (sym c.meeting.ensures ∙ c.if-meeting.false)
