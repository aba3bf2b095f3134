use Rattle.node_threads.proofs.CourseOpenings.{begins}
use Rattle.node_threads.proofs.RunOutcomes.{opens_of}
use Rattle.node_threads.proofs.opening_course.opened.Goals as goal

pub new-requires-clause-clocks : goal.new-requires-clause-clocks
new-requires-clause-clocks c =
    (begins c.args.bus c.args.clocks.now c.in_ok-lists.lists c.requires.clocks c.in_ok-lists.ensures.lists
    c.in_ok-lists.ensures.order).begin

pub returns : goal.returns
returns c =
    opens_of c.args.bus c.args.clocks.now c.in_ok-lists.lists c.new.result
    (begins c.args.bus c.args.clocks.now c.in_ok-lists.lists c.requires.clocks c.in_ok-lists.ensures.lists
    c.in_ok-lists.ensures.order) c.new.ensures
