use Rattle.std.proofs.Common.{sym, subst}
use Rattle.pals_runs.specs.declared.events_and_faults.Event.TheVariants as event
use Rattle.pals_bus.specs.proof.LooseStopsAndFaults.{LooseEnds}
use Rattle.pals_bus.proofs.LooseStopsAndFaults.{finish_ends}
use Rattle.pals_bus.proofs.loose_world_events.finish_loose.Goals as goal

pub returns-in-Err-clause-end : goal.returns-in-Err-clause-end
returns-in-Err-clause-end c =
    let old = c.args.bus.now in
    let new = c.finish_here.new.self in
    subst (LooseEnds old (event.Finish c.args.node) new) (sym c.finish_fault.ensures)
    (finish_ends old new c.args.node c.in-Err.end c.in-Err.ensures.same c.in-Err.ensures.cause)
