-- The events of a loose world, which has no time.
use Rattle.std.specs.Prelude.{◌≡◌, ◌<◌, ℕ, false, length, Option, Some, None}
use Rattle.pals_base.specs.declared.basic_types.NodeNo.{NodeNo}
use Rattle.pals_base.specs.declared.basic_types.LinkNo.{LinkNo}
use Rattle.pals_model.specs.declared.design.DesignParts.{DesignParts}
use Rattle.pals_runs.specs.declared.events_and_faults.Event.{Event}
use Rattle.bus_machine.specs.Machine.{BusEvent, Start, Step, Finish, Send, Arrive, Drop, Repeat, is_allowed}
use Rattle.pals_bus.specs.BusValues.{BusValue, Happens}
use Rattle.pals_runs.specs.declared.events_and_faults.Event.TheVariants as event

-- the event of the bus: no event has a reading, and none is a passing of time
abbrev pub loose_event : Event → Option BusEvent
loose_event (event.Pass time readings) = None
loose_event (event.Start node) = Some (Start node None)
loose_event (event.Step node) = Some (Step node None)
loose_event (event.Finish node) = Some (Finish node)
loose_event (event.Send node) = Some (Send node None)
loose_event (event.Arrive link round) = Some (Arrive link round None)
loose_event (event.Drop link round) = Some (Drop link round)
loose_event (event.Repeat link round) = Some (Repeat link round)

-- it names a node or a link of the design
abbrev pub IsNamedIn : DesignParts → Event → Type 0
IsNamedIn design (event.Pass time readings) = Unit {0}
IsNamedIn design (event.Start node) = node.0 < length design.components
IsNamedIn design (event.Step node) = node.0 < length design.components
IsNamedIn design (event.Finish node) = node.0 < length design.components
IsNamedIn design (event.Send node) = node.0 < length design.components
IsNamedIn design (event.Arrive link round) = link.0 < length design.links
IsNamedIn design (event.Drop link round) = link.0 < length design.links
IsNamedIn design (event.Repeat link round) = link.0 < length design.links

-- the node of an event of a node
abbrev pub event_node : Event → Option NodeNo
event_node (event.Pass time readings) = None
event_node (event.Start node) = Some node
event_node (event.Step node) = Some node
event_node (event.Finish node) = Some node
event_node (event.Send node) = Some node
event_node (event.Arrive link round) = None
event_node (event.Drop link round) = None
event_node (event.Repeat link round) = None

-- the link and the round of an event of a message
abbrev pub event_message : Event → Option (LinkNo × ℕ)
event_message (event.Pass time readings) = None
event_message (event.Start node) = None
event_message (event.Step node) = None
event_message (event.Finish node) = None
event_message (event.Send node) = None
event_message (event.Arrive link round) = Some (link, round)
event_message (event.Drop link round) = Some (link, round)
event_message (event.Repeat link round) = Some (link, round)

-- it happened
abbrev pub HappensLoose : BusValue → Event → BusValue → Type 0
HappensLoose old e new = (what : BusEvent) × (loose_event e ≡ Some what) × Happens old what new

-- it happened, and the run has no stop
pub record GoesOn (old : BusValue) (e : Event) (new : BusValue) : Type 0 where
  pub happens : HappensLoose old e new
  pub going : new.state.stop ≡ None

-- the run has no stop, and the machine does not allow the event; nothing has changed
pub record IsRefused (old : BusValue) (e : Event) (new : BusValue) : Type 0 where
  pub same : new ≡ old
  pub going : old.state.stop ≡ None
  pub what : BusEvent
  pub is_what : loose_event e ≡ Some what
  pub refused : is_allowed old.run old.state what ≡ false
