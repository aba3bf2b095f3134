use Rattle.std.proofs.Common.{Some}
use Rattle.node_threads.proofs.BusCalls.{send_keeps}
use Rattle.node_threads.proofs.NextReadings.{goes_at}
use Rattle.node_threads.proofs.course.SharedRun.send.Goals as goal

pub send-requires-clause-meets : goal.send-requires-clause-meets
send-requires-clause-meets c = λ meets.
    goes_at c.self.inside.bus c.self.inside.lists c.self.inside.notes _ c.args.node c.args.reading _ c.self.view_is
    c.requires.is_open c.requires.sends.1 meets

pub invariant_of-self : goal.invariant_of-self
invariant_of-self c =
    (send_keeps c.self.inside.bus c.self.inside.lists c.self.inside.notes c.send.new.self _ c.args.node
    (Some c.args.reading) c.send.result c.self.view_is c.self.invariant c.requires.sends c.send.ensures.ok
    c.send.ensures.same).course

pub returns-clause-stays : goal.returns-clause-stays
returns-clause-stays c =
    (send_keeps c.self.inside.bus c.self.inside.lists c.self.inside.notes c.send.new.self _ c.args.node
    (Some c.args.reading) c.send.result c.self.view_is c.self.invariant c.requires.sends c.send.ensures.ok
    c.send.ensures.same).stays
