use Rattle.std.proofs.Common.{Some}
use Rattle.node_threads.proofs.BusCalls.{start_keeps}
use Rattle.node_threads.proofs.NextReadings.{goes_at}
use Rattle.node_threads.proofs.course.SharedRun.start.Goals as goal

pub start-requires-clause-meets : goal.start-requires-clause-meets
start-requires-clause-meets c = λ meets.
    goes_at c.self.inside.bus c.self.inside.lists c.self.inside.notes _ c.args.node c.args.reading _ c.self.view_is
    c.in-Ok.ensures.is_open c.in-Ok.ensures.begins.does meets

pub invariant_of-self : goal.invariant_of-self
invariant_of-self c =
    (start_keeps c.self.inside.bus c.self.inside.lists c.self.inside.notes c.start.new.self _ c.args.node
    (Some c.args.reading) c.start.result c.self.view_is c.self.invariant c.in-Ok.ensures.begins c.start.ensures.ok
    c.start.ensures.end).course

pub invariant_of-self-in-Err-Stopped-start : goal.invariant_of-self-in-Err-Stopped-start
invariant_of-self-in-Err-Stopped-start c =
    (start_keeps c.self.inside.bus c.self.inside.lists c.self.inside.notes c.start.new.self _ c.args.node
    (Some c.args.reading) c.start.result c.self.view_is c.self.invariant c.in-Ok.ensures.begins c.start.ensures.ok
    c.start.ensures.end).course
