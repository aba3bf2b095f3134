use Rattle.std.proofs.Common.{◌≡◌, List, [], ◌∷◌, ◌++◌, take, None, ap, ◌∙◌, sym, subst}
use Rattle.std.proofs.lemmas.List.{take_more}
use Rattle.pals_runs.specs.declared.events_and_faults.Event.{Event}
use Rattle.run_laws.specs.EventFaults.{fault_of}
use Rattle.timed_world.specs.proof.WorldValuesAndMoves.{world_of}
use Rattle.timed_world.specs.proof.EventLists.{Leads}
use Rattle.timed_world.proofs.EventLists.{leads_more}
use Rattle.timed_world.proofs.event_list.run_list.Goals as goal

pub loop-index-preserved : goal.loop-index-preserved
loop-index-preserved c =
    let events = c.args.events.now in
    let index = c.loop-index.index in
    let mid = c.loop-index.world in
    let new = c.apply.new.self in
    let event = c.index-events-index.result in
    let at = c.index-events-index.is in
    let fine : fault_of mid.bus.run (world_of mid) event ≡ None = c.in-Ok.ensures.fine in
    let leads =
    leads_more c.args.world.now mid new (take index events) event c.loop-index.invariant fine
    c.in-Ok.ensures.moves in
    let more =
    take_more events index event c.loop-index-test.true
    ∙ ap (λ (e : Event). take index events ++ e ∷ []) (sym at) in
    subst (λ (es : List Event). Leads c.args.world.now es new) (sym more) leads
