use Rattle.node_threads.proofs.BusCalls.{take_keeps}
use Rattle.node_threads.proofs.course.SharedRun.take.Goals as goal

pub invariant_of-self : goal.invariant_of-self
invariant_of-self c =
    (take_keeps c.self.inside.bus c.self.inside.lists c.self.inside.notes c.take_due.new.self _ c.args.node
    c.args.reading c.take_due.result c.self.view_is c.self.invariant c.requires.is_open c.requires.waits
    c.requires.awaited c.take_due.ensures.ok c.take_due.ensures.end).goes.course

pub returns-clause-stays : goal.returns-clause-stays
returns-clause-stays c =
    (take_keeps c.self.inside.bus c.self.inside.lists c.self.inside.notes c.take_due.new.self _ c.args.node
    c.args.reading c.take_due.result c.self.view_is c.self.invariant c.requires.is_open c.requires.waits
    c.requires.awaited c.take_due.ensures.ok c.take_due.ensures.end).goes.stays

pub returns-clause-is_open : goal.returns-clause-is_open
returns-clause-is_open c =
    (take_keeps c.self.inside.bus c.self.inside.lists c.self.inside.notes c.take_due.new.self _ c.args.node
    c.args.reading c.take_due.result c.self.view_is c.self.invariant c.requires.is_open c.requires.waits
    c.requires.awaited c.take_due.ensures.ok c.take_due.ensures.end).is_open

pub returns-clause-begins : goal.returns-clause-begins
returns-clause-begins c =
    (take_keeps c.self.inside.bus c.self.inside.lists c.self.inside.notes c.take_due.new.self _ c.args.node
    c.args.reading c.take_due.result c.self.view_is c.self.invariant c.requires.is_open c.requires.waits
    c.requires.awaited c.take_due.ensures.ok c.take_due.ensures.end).allows
