use Rattle.node_threads.proofs.NextReadings.{pick_by, within_lists}
use Rattle.node_threads.proofs.course.SharedRun.pick.Goals as goal

pub index_mut-requires : goal.index_mut-requires
index_mut-requires c =
    within_lists c.self.inside.bus c.self.inside.lists c.self.inside.notes _ c.args.node.0 c.self.view_is
    c.self.invariant c.requires.lists c.requires.is_open

pub invariant_of-self : goal.invariant_of-self
invariant_of-self c =
    (pick_by c.self.inside.bus c.self.inside.lists c.self.inside.notes _ c.args.node c.args.next c.index_mut.result.now
    c.wait_for.new.self c.wait_for.result c.self.view_is c.self.invariant c.requires.lists c.requires.is_open
    c.requires.next c.index_mut.ensures.value
    (record {
      pick = c.wait_for.ensures.pick;
      range = c.wait_for.ensures.range;
      stands = c.wait_for.ensures.stands;
      ended = c.wait_for.ensures.ended;
      same = c.wait_for.ensures.same;
    })).goes.course

pub returns-clause-stays : goal.returns-clause-stays
returns-clause-stays c =
    (pick_by c.self.inside.bus c.self.inside.lists c.self.inside.notes _ c.args.node c.args.next c.index_mut.result.now
    c.wait_for.new.self c.wait_for.result c.self.view_is c.self.invariant c.requires.lists c.requires.is_open
    c.requires.next c.index_mut.ensures.value
    (record {
      pick = c.wait_for.ensures.pick;
      range = c.wait_for.ensures.range;
      stands = c.wait_for.ensures.stands;
      ended = c.wait_for.ensures.ended;
      same = c.wait_for.ensures.same;
    })).goes.stays

pub returns-clause-is_open : goal.returns-clause-is_open
returns-clause-is_open c =
    (pick_by c.self.inside.bus c.self.inside.lists c.self.inside.notes _ c.args.node c.args.next c.index_mut.result.now
    c.wait_for.new.self c.wait_for.result c.self.view_is c.self.invariant c.requires.lists c.requires.is_open
    c.requires.next c.index_mut.ensures.value
    (record {
      pick = c.wait_for.ensures.pick;
      range = c.wait_for.ensures.range;
      stands = c.wait_for.ensures.stands;
      ended = c.wait_for.ensures.ended;
      same = c.wait_for.ensures.same;
    })).is_open

pub returns-clause-ok : goal.returns-clause-ok
returns-clause-ok c =
    (pick_by c.self.inside.bus c.self.inside.lists c.self.inside.notes _ c.args.node c.args.next c.index_mut.result.now
    c.wait_for.new.self c.wait_for.result c.self.view_is c.self.invariant c.requires.lists c.requires.is_open
    c.requires.next c.index_mut.ensures.value
    (record {
      pick = c.wait_for.ensures.pick;
      range = c.wait_for.ensures.range;
      stands = c.wait_for.ensures.stands;
      ended = c.wait_for.ensures.ended;
      same = c.wait_for.ensures.same;
    })).ok

pub returns-clause-err : goal.returns-clause-err
returns-clause-err c =
    (pick_by c.self.inside.bus c.self.inside.lists c.self.inside.notes _ c.args.node c.args.next c.index_mut.result.now
    c.wait_for.new.self c.wait_for.result c.self.view_is c.self.invariant c.requires.lists c.requires.is_open
    c.requires.next c.index_mut.ensures.value
    (record {
      pick = c.wait_for.ensures.pick;
      range = c.wait_for.ensures.range;
      stands = c.wait_for.ensures.stands;
      ended = c.wait_for.ensures.ended;
      same = c.wait_for.ensures.same;
    })).err
