-- When the messages of a link become due, and where they are.
use Rattle.std.specs.Prelude.{◌≡◌, ℕ, ◌+◌, ◌-◌, ◌<◌, ◌≤◌, nat_eq, Bool, true, false, if◌then◌else◌, List, [], ◌∷◌}
use Rattle.std.specs.Prelude.{length, All, Option, Some, None, is_some, slice_get}
use Rattle.std.specs.Option.{option_map}
use Rattle.pals_base.specs.declared.basic_types.PortValue.{PortValue}
use Rattle.pals_model.specs.declared.design.Link.{Link}
use Rattle.pals_model.specs.declared.flight_copy.FlightCopy.{FlightCopy}
use Rattle.pals_model.specs.Delays.{delay_of}
use Rattle.pals_model.specs.Flights.{is_of}
use Rattle.pals_runs.specs.declared.journal.Stop.{Stop}
use Rattle.pals_runs.specs.declared.journal.JournalEntry.{JournalEntry}
use Rattle.bus_machine.specs.NodeEvents.{slot_at}
use Rattle.bus_machine.specs.BusStates.{BusState, node_at, flight_at}
use Rattle.bus_machine.specs.Plans.{link_at}
use Rattle.bus_machine.specs.RunParameters.{Run}
use Rattle.run_laws.specs.JournalReadings.{starts, sends, latest}
use Rattle.run_laws.specs.proof.RunQuantifiers.{InRuns}
use Rattle.run_laws.specs.NodeLinkQuantifiers.{EachLink}
use Rattle.pals_runs.specs.declared.journal.Stop.TheVariants as stop

-- ---- what a journal and a state show of a link
pub record LinkView : Type 0 where
  -- the readings of its source's sends and of its target's starts, and the target's last reading
  pub sends : List ℕ
  pub starts : List ℕ
  pub latest : ℕ
  -- how many rounds the target has started, the link's slot there, and the copies in flight
  pub count : ℕ
  pub slot : Option (List PortValue)
  pub flight : List FlightCopy
  -- the round of an early stop on it
  pub taken : Option ℕ

abbrev pub early_on : ℕ → Option Stop → Option ℕ
early_on number None = None
early_on number (Some (stop.Missed link round reading cause)) = None
early_on number (Some (stop.Early link round reading)) = if nat_eq link.0 number then Some round else None

abbrev pub view : Run → BusState → List JournalEntry → ℕ → Link → LinkView
view run s journal number link = record {
  sends = sends link.source.0 journal;
  starts = starts link.target.0 journal;
  latest = latest run.design link.target.0 journal;
  count = (node_at s link.target.0).count;
  slot = slot_at (node_at s link.target.0) link.in_port;
  flight = flight_at s number;
  taken = early_on number s.stop;
}

-- the due reading of a round that the source has sent
abbrev pub due_of : (ℕ → ℕ) → List ℕ → ℕ → Option ℕ
due_of delay sends round = option_map (λ at. at + delay round) (slice_get sends round)

abbrev pub one_if : Bool → ℕ
one_if true = 1
one_if false = 0

-- how many copies of a round are in flight
abbrev pub copies : ℕ → List FlightCopy → ℕ
copies round [] = 0
copies round (c ∷ cs) = one_if (is_of round c) + copies round cs

-- where the message of a round is that its source has sent: once in flight, in its slot, taken by a start, or taken
-- by an early stop
pub data Whereabouts (round count : ℕ) (slot : Option (List PortValue)) (flying : ℕ) (taken : Option ℕ) : Type 0 where
  in_flight : flying ≡ 1 → count ≤ round + 1 → (count ≡ round + 1 → slot ≡ None)
      → Whereabouts round count slot flying taken
  in_slot : flying ≡ 0 → count ≡ round + 1 → is_some slot ≡ true → Whereabouts round count slot flying taken
  was_taken : flying ≡ 0 → round + 1 < count → Whereabouts round count slot flying taken
  came_early : flying ≡ 0 → taken ≡ Some round → Whereabouts round count slot flying taken

-- a copy in flight is due at the sum of its send's reading and its delay
pub record IsDueCopy (delay : ℕ → ℕ) (sends : List ℕ) (copy : FlightCopy) : Type 0 where
  pub sent : copy.round < length sends
  pub due : copy.due ≡ due_of delay sends copy.round

-- the message in a slot was due at the target's last reading, or before
pub record SlotWasDue (delay : ℕ → ℕ) (v : LinkView) : Type 0 where
  pub some' : 1 ≤ v.count
  pub due : ℕ
  pub due_is : due_of delay v.sends (v.count - 1) ≡ Some due
  pub before : due ≤ v.latest

-- the message of a round was due when its target started the round after it, or before
pub record WasInTime (delay : ℕ → ℕ) (v : LinkView) (round : ℕ) : Type 0 where
  pub due : ℕ
  pub at : ℕ
  pub due_is : due_of delay v.sends round ≡ Some due
  pub at_is : slice_get v.starts (round + 1) ≡ Some at
  pub before : due ≤ at

pub record IsTimed (delay : ℕ → ℕ) (v : LinkView) : Type 0 where
  pub flights : All (IsDueCopy delay v.sends) v.flight
  pub places : (round : ℕ) → round < length v.sends → Whereabouts round v.count v.slot (copies round v.flight) v.taken
  pub slot : is_some v.slot ≡ true → SlotWasDue delay v
  pub taken_in : (round : ℕ) → round + 1 < v.count → WasInTime delay v round
  pub begun : length v.starts ≡ v.count

-- so it is at each link of a run
abbrev pub LinksAreTimed : Type 0
LinksAreTimed = InRuns (λ run clocks journal s. EachLink run (λ number.
    IsTimed (delay_of run.delays number) (view run s journal number (link_at run.design number))))
