use Rattle.std.proofs.Common.{◌<◌, length, arith}
use Rattle.std.proofs.lemmas.Grind.{common_steps}
use Rattle.node_threads.proofs.BusCalls.{finish_keeps}
use Rattle.node_threads.proofs.course.SharedRun.hand_in.Goals as goal

pub invariant_of-self : goal.invariant_of-self
invariant_of-self c =
    let within : c.node-node.result.0 < length c.args.self.now.bus.run.design.components = grind (arith, common_steps) in
    (finish_keeps c.self.inside.bus c.self.inside.lists c.self.inside.notes c.finish_own.new.self _ c.node-node.result
    c.args.done c.finish_own.result c.self.view_is c.self.invariant within c.finish_own.ensures.ok
    c.finish_own.ensures.same).course

pub returns : goal.returns
returns c =
    let within : c.node-node.result.0 < length c.args.self.now.bus.run.design.components = grind (arith, common_steps) in
    (finish_keeps c.self.inside.bus c.self.inside.lists c.self.inside.notes c.finish_own.new.self _ c.node-node.result
    c.args.done c.finish_own.result c.self.view_is c.self.invariant within c.finish_own.ensures.ok
    c.finish_own.ensures.same).stays
