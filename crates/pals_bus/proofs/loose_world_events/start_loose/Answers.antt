use Rattle.std.proofs.Common.{sym, subst}
use Rattle.pals_runs.specs.declared.events_and_faults.Event.TheVariants as event
use Rattle.pals_bus.specs.proof.LooseStopsAndFaults.{LooseEnds}
use Rattle.pals_bus.proofs.LooseStopsAndFaults.{start_ends}
use Rattle.pals_bus.proofs.loose_world_events.start_loose.Goals as goal

pub returns-in-Err-clause-end : goal.returns-in-Err-clause-end
returns-in-Err-clause-end c =
    let old = c.args.bus.now in
    let new = c.start.new.self in
    subst (LooseEnds old (event.Start c.args.node) new) (sym c.start_fault.ensures)
    (start_ends old new c.args.node c.in-Err.end c.in-Err.ensures.end)
