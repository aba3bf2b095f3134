use Rattle.std.proofs.Common.{Some}
use Rattle.node_threads.proofs.BusCalls.{step_keeps}
use Rattle.node_threads.proofs.NextReadings.{goes_at}
use Rattle.node_threads.proofs.course.SharedRun.step.Goals as goal

pub step-requires-clause-meets : goal.step-requires-clause-meets
step-requires-clause-meets c = λ meets.
    goes_at c.self.inside.bus c.self.inside.lists c.self.inside.notes _ c.args.node c.args.reading _ c.self.view_is
    c.requires.is_open c.requires.steps.2 meets

pub invariant_of-self : goal.invariant_of-self
invariant_of-self c =
    (step_keeps c.self.inside.bus c.self.inside.lists c.self.inside.notes c.step.new.self _ c.args.node
    (Some c.args.reading) c.step.result c.self.view_is c.self.invariant c.requires.steps c.step.ensures.ok
    c.step.ensures.same).course

pub invariant_of-self-in-Err-Stopped : goal.invariant_of-self-in-Err-Stopped
invariant_of-self-in-Err-Stopped c =
    (step_keeps c.self.inside.bus c.self.inside.lists c.self.inside.notes c.step.new.self _ c.args.node
    (Some c.args.reading) c.step.result c.self.view_is c.self.invariant c.requires.steps c.step.ensures.ok
    c.step.ensures.same).course
