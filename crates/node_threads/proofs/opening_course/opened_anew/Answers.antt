use Rattle.node_threads.proofs.RunOutcomes.{fresh_opens, fresh_clocks, anew_of}
use Rattle.node_threads.proofs.opening_course.opened_anew.Goals as goal

pub opened-requires-clause-opening : goal.opened-requires-clause-opening
opened-requires-clause-opening c = fresh_opens c.args.bus.now c.in_ok-fresh.fresh c.in_ok-fresh.ensures

pub opened-requires-clause-clocks : goal.opened-requires-clause-clocks
opened-requires-clause-clocks c =
    fresh_clocks c.args.bus.now c.in_ok-fresh.fresh c.args.clocks.now c.in_ok-fresh.ensures c.requires

pub returns : goal.returns
returns c =
    anew_of c.args.bus.now c.in_ok-fresh.fresh c.args.clocks.now c.opened.result c.in_ok-fresh.ensures c.opened.ensures
