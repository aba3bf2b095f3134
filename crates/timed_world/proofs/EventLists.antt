-- A list of events in a world, made one event longer.
use Rattle.std.proofs.Common.{◌≡◌, ◌+◌, List, [], ◌∷◌, ◌++◌, None, refl, ap, ap₂, ◌∙◌, sym}
use Rattle.pals_runs.specs.declared.events_and_faults.Event.{Event}
use Rattle.bus_machine.specs.RunParameters.{Run}
use Rattle.pals_bus.specs.BusValues.{BusValue}
use Rattle.run_laws.specs.Worlds.{World, world_after}
use Rattle.run_laws.specs.EventFaults.{fault_of}
use Rattle.run_laws.specs.EventLists.{IsWithin, world_left}
use Rattle.timed_world.specs.proof.WorldValuesAndMoves.{WorldValue, world_of, Moves}
use Rattle.timed_world.specs.proof.EventLists.{Leads}
use Rattle.timed_world.proofs.EventEffects.{bus_stays}

within_more : (run : Run) (w : World) (events : List Event) (e : Event) → IsWithin run w events
    → fault_of run (world_left run w events) e ≡ None
    → IsWithin run w (events ++ e ∷ [])
within_more run w [] e within fine = (fine, tt)
within_more run w (first ∷ events) e within fine =
    (within.0, within_more run (world_after run w first) events e within.1 fine)

left_more : (run : Run) (w : World) (events : List Event) (e : Event)
    → world_left run w (events ++ e ∷ []) ≡ world_after run (world_left run w events) e
left_more run w [] e = refl
left_more run w (first ∷ events) e = left_more run (world_after run w first) events e

pub leads_none : (v : WorldValue) → Leads v [] v
leads_none v = record { within = tt; left = refl; others = refl }

pub leads_more : (old mid new : WorldValue) (events : List Event) (e : Event) → Leads old events mid
    → fault_of mid.bus.run (world_of mid) e ≡ None → Moves mid e new
    → Leads old (events ++ e ∷ []) new
leads_more old mid new events e leads fine moves =
    let run = old.bus.run in
    let same : mid.bus.run ≡ run = ap (λ (b : BusValue). b.run) leads.others in
    let here : fault_of run (world_left run (world_of old) events) e ≡ None =
    sym (ap₂ (λ (r : Run) (w : World). fault_of r w e) same leads.left) ∙ fine in
    record {
      within = within_more run (world_of old) events e leads.within here;
      left =
          moves.world ∙ ap₂ (λ (r : Run) (w : World). world_after r w e) same leads.left
          ∙ sym (left_more run (world_of old) events e);
      others =
          bus_stays mid e new moves
          ∙ ap (λ (b : BusValue). record b { state = new.bus.state; journal = new.bus.journal }) leads.others;
    }
