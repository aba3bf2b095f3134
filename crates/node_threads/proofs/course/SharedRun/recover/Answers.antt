use Rattle.node_threads.proofs.BusCalls.{finish_here_keeps}
use Rattle.node_threads.proofs.course.SharedRun.recover.Goals as goal

pub invariant_of-self : goal.invariant_of-self
invariant_of-self c =
    (finish_here_keeps c.self.inside.bus c.self.inside.lists c.self.inside.notes c.finish_here.new.self _ c.args.node
    c.finish_here.result c.self.view_is c.self.invariant c.requires c.finish_here.ensures.ok
    c.finish_here.ensures.same).course

pub returns-clause-stays : goal.returns-clause-stays
returns-clause-stays c =
    (finish_here_keeps c.self.inside.bus c.self.inside.lists c.self.inside.notes c.finish_here.new.self _ c.args.node
    c.finish_here.result c.self.view_is c.self.invariant c.requires c.finish_here.ensures.ok
    c.finish_here.ensures.same).stays
