-- The messages that are due to a node.
use Rattle.std.specs.Prelude.{◌≡◌, ◌⊎◌, ℕ, ◌<◌, ◌≤◌, true, false, if◌then◌else◌, List, count_by, AllPairs, Some, None}
use Rattle.std.specs.Prelude.{slice_get}
use Rattle.pals_base.specs.declared.basic_types.LinkNo.{LinkNo}
use Rattle.pals_model.specs.declared.design.Link.{Link}
use Rattle.pals_model.specs.declared.flight_copy.FlightCopy.{FlightCopy}
use Rattle.link_buffers.specs.proof.Flights.{is_due}
use Rattle.link_buffers.specs.declared.due_queue.DueEntry.{DueEntry}
use Rattle.link_buffers.specs.proof.DueQueues.{is_entry, is_due_at}
use Rattle.bus_machine.specs.BusStates.{flight_at}
use Rattle.bus_machine.specs.Machine.{Arrive}
use Rattle.std.specs.declared.alloc.AllocError.{AllocError}
use Rattle.pals_bus.specs.declared.bus_error.BusError.{BusError}
use Rattle.pals_bus.specs.BusValues.{BusValue, Happens}
use Rattle.pals_bus.specs.proof.DueQueues.{comes_first, copies_in_flight}
use Rattle.pals_bus.specs.declared.bus_error.BusError.TheVariants as fault

-- a message of this round of this link is due to a node at a reading
pub record IsDueTo (b : BusValue) (node reading link round : ℕ) : Type 0 where
  pub the_link : Link
  pub is_link : slice_get b.run.design.links link ≡ Some the_link
  pub to_node : the_link.target.0 ≡ node
  pub place : ℕ
  pub copy : FlightCopy
  pub is_copy : slice_get (flight_at b.state link) place ≡ Some copy
  pub of_round : copy.round ≡ round
  pub due : is_due reading copy ≡ true

-- some message is
pub record HasDue (b : BusValue) (node reading : ℕ) : Type 0 where
  pub link : ℕ
  pub round : ℕ
  pub is_due : IsDueTo b node reading link round

-- the first of them: in link order, and then in order of rounds
pub record IsNextDue (b : BusValue) (node reading link round : ℕ) : Type 0 where
  pub is_due : IsDueTo b node reading link round
  pub first : (other later : ℕ) → IsDueTo b node reading other later
      → (link < other) ⊎ ((link ≡ other) × (round ≤ later))

-- they arrive one after the other
pub data TakesDue (node reading : ℕ) : BusValue → BusValue → Type 0 where
  takes_none : {b : BusValue} → TakesDue node reading b b
  takes_next : {a b c : BusValue} (link : LinkNo) (round : ℕ) → TakesDue node reading a b
      → IsNextDue b node reading link.0 round → Happens b (Arrive link round (Some reading)) c
      → TakesDue node reading a c

-- all have arrived, and the run has no stop
pub record TakesAllDue (old : BusValue) (node reading : ℕ) (new : BusValue) : Type 0 where
  pub takes : TakesDue node reading old new
  pub going : new.state.stop ≡ None
  pub none_left : (link round : ℕ) → IsDueTo new node reading link round → ⊥

-- the entries of all messages that are due to a node at a reading, in link order and then in order of rounds
pub record AreLeft (b : BusValue) (node reading : ℕ) (left : List DueEntry) : Type 0 where
  pub counts : (e : DueEntry) → count_by (is_entry e) left
      ≡ (if is_due_at reading e then copies_in_flight b node e else 0)
  pub order : AllPairs (λ earlier later. comes_first later earlier ≡ false) left

-- the run had the stop before, or the last of the arrivals gave it
abbrev pub DueEnds : BusValue → ℕ → ℕ → BusValue → BusError AllocError → Type 0
DueEnds old node reading new (fault.Stopped why) =
    ((old.state.stop ≡ Some why) × (new ≡ old))
    ⊎ ((old.state.stop ≡ None) × TakesDue node reading old new × (new.state.stop ≡ Some why))
DueEnds old node reading new (fault.Refused no_memory) = new ≡ old
