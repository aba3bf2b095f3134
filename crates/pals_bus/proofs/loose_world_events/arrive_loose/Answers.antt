use Rattle.std.proofs.Common.{None, refl, sym, subst}
use Rattle.pals_runs.specs.declared.events_and_faults.Event.TheVariants as event
use Rattle.bus_machine.specs.Machine.{Arrive}
use Rattle.pals_bus.specs.proof.LooseStopsAndFaults.{LooseEnds}
use Rattle.pals_bus.proofs.LooseStopsAndFaults.{link_ends}
use Rattle.pals_bus.proofs.loose_world_events.arrive_loose.Goals as goal

pub returns-in-Err-clause-end : goal.returns-in-Err-clause-end
returns-in-Err-clause-end c =
    let old = c.args.bus.now in
    let new = c.deliver.new.self in
    let e = event.Arrive c.args.link c.args.round in
    subst (LooseEnds old e new) (sym c.link_fault.ensures)
    (link_ends old new e (Arrive c.args.link c.args.round None) c.args.link c.args.round c.in-Err.end
    c.in-Err.ensures.same c.in-Err.ensures.cause refl refl refl)
