-- What the loss of a message does to a bus.
use Rattle.std.proofs.Common.{◌≡◌, ◌∙◌, ℕ, ◌+◌, ◌≤◌, true, List, [], ◌∷◌, ◌++◌, length, Option, Some, None, is_some}
use Rattle.std.proofs.Common.{refl, sym, ap, subst, arith}
use Rattle.std.specs.Prelude.{option_map, slice_set, slice_index_or, sum_by, vec_capacity}
use Rattle.std.specs.Arc.{arc_value}
use Rattle.pals_base.specs.declared.basic_types.PortValue.{PortValue}
use Rattle.pals_base.specs.declared.basic_types.LinkNo.{LinkNo}
use Rattle.pals_model.specs.declared.flight_copy.FlightCopy.{FlightCopy}
use Rattle.pals_model.specs.Flights.{oldest, without_oldest}
use Rattle.pals_runs.specs.declared.journal.JournalEntry.TheVariants as entry
use Rattle.bus_machine.specs.LinkEvents.{is_in_flight}
use Rattle.bus_machine.specs.BusStates.{flight_at}
use Rattle.bus_machine.specs.Machine.{Drop}
use Rattle.bus_machine.specs.Replay.{Replays, goes_on}
use Rattle.pals_bus.specs.declared.bus_fields.BusFields.{BusFields}
use Rattle.pals_bus.specs.BusValues.{Happens}
use Rattle.pals_bus.specs.proof.BusInvariant.{IsBusInvariant, owed, run_of, state_of, value_of, copies_in}
use Rattle.pals_bus.specs.proof.OutOfRangeDefaults.{no_flight}
use Rattle.pals_bus.proofs.FlightRooms.{flight_is, rooms_kept}
use Rattle.pals_bus.proofs.EventInvariants.{flights_happen}
use Rattle.pals_bus.proofs.StartsStepsAndFinishes.{longer}
use Rattle.pals_bus.proofs.OldestCopyRemoval.{Takes, same_count}

some_flies : (o : Option FlightCopy) (tuple : List PortValue)
    → Some tuple ≡ option_map (λ (copy : FlightCopy). copy.tuple) o
    → is_some o ≡ true
some_flies None tuple is = absurd (cc)
some_flies (Some copy) tuple is = refl

pub some_in_flight : (f g : BusFields) (link : LinkNo) (round : ℕ) (tuple : List PortValue)
    → Takes f g link round (Some tuple)
    → is_in_flight round (flight_at (state_of f) link.0) ≡ true
some_in_flight f g link round tuple takes =
    ap (is_in_flight round) (flight_is f.flights link.0)
    ∙ some_flies (oldest round (slice_index_or f.flights link.0 no_flight).copies) tuple takes.taken

pub copies_left : (f g : BusFields) (link : LinkNo) (round : ℕ) (tuple : Option (List PortValue))
    → Takes f g link round tuple
    → copies_in g.flights ≡ slice_set (copies_in f.flights) link.0
    (without_oldest round (flight_at (state_of f) link.0))
copies_left f g link round tuple takes =
    takes.copies ∙ ap (λ (copies : List FlightCopy).
    slice_set (copies_in f.flights) link.0 (without_oldest round copies)) (sym (flight_is f.flights link.0))

pub drop_happens : (f t g : BusFields) (link : LinkNo) (round : ℕ) (tuple : List PortValue) → f.stop ≡ None
    → Takes f t link round (Some tuple) → g ≡ record t { journal = g.journal }
    → g.journal.items ≡ f.journal.items ++ entry.Drop link round ∷ []
    → Happens (value_of f) (Drop link round) (value_of g)
drop_happens f t g link round tuple going takes same told =
    let h : BusFields = record f { flights = t.flights; queues = t.queues; journal = g.journal } in
    let is : g ≡ h = same ∙ ap (λ (k : BusFields). let u : BusFields = record k { journal = g.journal } in u)
    takes.others in
    subst (Happens (value_of f) (Drop link round)) (sym (ap value_of is))
    (flights_happen f (Drop link round) t.flights
    (slice_set (copies_in f.flights) link.0 (without_oldest round (flight_at (state_of f) link.0))) g.journal.items
    going (copies_left f t link round (Some tuple) takes) (some_in_flight f t link round tuple takes) refl told)

pub drop_keeps : (f t g : BusFields) (link : LinkNo) (round : ℕ) (tuple : List PortValue) → IsBusInvariant f
    → Takes f t link round (Some tuple) → g ≡ record t { journal = g.journal }
    → g.journal.items ≡ f.journal.items ++ entry.Drop link round ∷ []
    → Happens (value_of f) (Drop link round) (value_of g)
    → length f.journal.items + sum_by owed f.nodes + 1 ≤ vec_capacity g.journal → IsBusInvariant g
drop_keeps f t g link round tuple keeps takes same told happens room =
    let h : BusFields = record f { flights = t.flights; queues = t.queues; journal = g.journal } in
    let is : g ≡ h = same ∙ ap (λ (k : BusFields). let u : BusFields = record k { journal = g.journal } in u)
    takes.others in
    let step : Happens (value_of f) (Drop link round) (value_of h) =
    subst (λ (k : BusFields). Happens (value_of f) (Drop link round) (value_of k)) is happens in
    let size = longer g.journal.items f.journal.items (entry.Drop link round) told in
    let all : IsBusInvariant h = record {
      design = keeps.design;
      outgoing = keeps.outgoing;
      rounds = keeps.rounds;
      delays = keeps.delays;
      values = keeps.values;
      nodes = keeps.nodes;
      flight_count = same_count f t link round (Some tuple) takes ∙ keeps.flight_count;
      rooms = rooms_kept (arc_value f.design).links f.nodes f.flights t.flights keeps.rooms takes.room;
      queues = takes.queues;
      replays =
          subst (λ j. Replays (run_of f) j (state_of h)) (sym step.journal)
          (goes_on (Drop link round) keeps.replays step.step);
      place = omega (arith, size, room);
    } in
    subst IsBusInvariant (sym is) all
