use Rattle.std.proofs.Common.{◌≡◌, None, sym, subst}
use Rattle.pals_runs.specs.declared.events_and_faults.Event.{Event}
use Rattle.run_laws.specs.EventFaults.{fault_of}
use Rattle.timed_world.specs.proof.WorldValuesAndMoves.{world_of, Moves}
use Rattle.world_texts.proofs.EventsWithinBounds.{next_is_fine, only_memory, leads_next}
use Rattle.world_texts.proofs.ring_result.go_through.Goals as goal

pub refused-requires : goal.refused-requires
refused-requires c =
    let old = c.loop-event.world in
    let fine =
    next_is_fine c.args.world.now old c.args.events.now c.loop-event.event-index c.event-item.result c.requires
    c.loop-event-test.true c.loop-event.invariant in
    let here = subst (λ (e : Event). fault_of old.bus.run (world_of old) e ≡ None) (sym c.event-item.is) fine in
    only_memory old.bus.run (world_of old) c.event-item.result _ here c.in-Err.ensures.fault

pub loop-event-preserved : goal.loop-event-preserved
loop-event-preserved c =
    let old = c.loop-event.world in
    let new = c.apply.new.self in
    let fine =
    subst (λ (e : Event). fault_of old.bus.run (world_of old) e ≡ None) c.event-item.is c.in-Ok.ensures.fine in
    let moves = subst (λ (e : Event). Moves old e new) c.event-item.is c.in-Ok.ensures.moves in
    leads_next c.args.world.now old new c.args.events.now c.loop-event.event-index c.event-item.result
    c.loop-event-test.true c.loop-event.invariant fine moves
