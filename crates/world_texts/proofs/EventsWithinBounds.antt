-- Each next event of a list that is within the bounds has no fault, unless memory runs out.
use Rattle.std.proofs.Common.{◌≡◌, ◌∙◌, ◌⊎◌, inl, inr, ℕ, zero, suc, ◌+◌, ◌<◌, List, [], ◌∷◌, length, take, Some, None}
use Rattle.std.proofs.Common.{sym, ap, ap₂, subst, arith}
use Rattle.std.specs.Prelude.{slice_index_or}
use Rattle.std.proofs.lemmas.List.{take_more}
use Rattle.std.proofs.lemmas.Option.{none-some}
use Rattle.pals_runs.specs.declared.events_and_faults.Event.{Event}
use Rattle.pals_runs.specs.declared.events_and_faults.EventFault.{EventFault}
use Rattle.pals_runs.specs.declared.events_and_faults.EventFault.TheVariants as fault
use Rattle.bus_machine.specs.RunParameters.{Run}
use Rattle.pals_bus.specs.BusValues.{BusValue}
use Rattle.run_laws.specs.Worlds.{World, world_after}
use Rattle.run_laws.specs.EventFaults.{fault_of}
use Rattle.run_laws.specs.EventLists.{IsWithin, world_left}
use Rattle.timed_world.specs.proof.WorldValuesAndMoves.{WorldValue, world_of, Moves}
use Rattle.timed_world.specs.proof.EventLists.{Leads}
use Rattle.timed_world.proofs.EventLists.{leads_more}

-- none has a fault in its turn
fine_at : (run : Run) (w : World) (events : List Event) (index : ℕ) (d : Event) → IsWithin run w events
    → index < length events
    → fault_of run (world_left run w (take index events)) (slice_index_or events index d) ≡ None
fine_at run w [] index d within below = absurd (omega (arith, below))
fine_at run w (e ∷ events) zero d within below = within.0
fine_at run w (e ∷ events) (suc index) d within below =
    fine_at run (world_after run w e) events index d within.1 (omega (arith, below))

pub next_is_fine : (old mid : WorldValue) (events : List Event) (index : ℕ) (d : Event)
    → IsWithin old.bus.run (world_of old) events → index < length events
    → Leads old (take index events) mid → fault_of mid.bus.run (world_of mid) (slice_index_or events index d) ≡ None
next_is_fine old mid events index d within below leads =
    let same = ap (λ (b : BusValue). b.run) leads.others in
    ap₂ (λ (r : Run) (w : World). fault_of r w (slice_index_or events index d)) same leads.left
    ∙ fine_at old.bus.run (world_of old) events index d within below

pub leads_next : (old mid new : WorldValue) (events : List Event) (index : ℕ) (d : Event) → index < length events
    → Leads old (take index events) mid
    → fault_of mid.bus.run (world_of mid) (slice_index_or events index d) ≡ None
    → Moves mid (slice_index_or events index d) new
    → Leads old (take (index + 1) events) new
leads_next old mid new events index d below leads fine moves =
    let e = slice_index_or events index d in
    subst (λ (es : List Event). Leads old es new) (sym (take_more events index d below))
    (leads_more old mid new (take index events) e leads fine moves)

-- without a fault the event can fail only if memory runs out
pub only_memory : (run : Run) (w : World) (e : Event) (why : EventFault) → fault_of run w e ≡ None
    → (why ≡ fault.Memory) ⊎ (fault_of run w e ≡ Some why)
    → why ≡ fault.Memory
only_memory run w e why fine (inl is) = is
only_memory run w e why fine (inr some) = absurd (none-some why (sym fine ∙ some))
