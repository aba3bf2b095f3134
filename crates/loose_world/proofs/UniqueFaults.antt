-- For the law of one end: an event that is not allowed has one fault only.
use Rattle.std.proofs.Common.{◌≡◌, ◌∙◌, ℕ, Some, sym, ap}
use Rattle.std.proofs.lemmas.Option.{none-some, same_Some}
use Rattle.pals_base.specs.declared.basic_types.NodeNo.{NodeNo}
use Rattle.pals_base.specs.declared.basic_types.LinkNo.{LinkNo}
use Rattle.pals_runs.specs.declared.events_and_faults.Event.{Event}
use Rattle.pals_runs.specs.declared.events_and_faults.Event.TheVariants as event
use Rattle.pals_runs.specs.declared.events_and_faults.EventFault.{EventFault}
use Rattle.pals_runs.specs.declared.events_and_faults.EventFault.TheVariants as fault
use Rattle.pals_bus.specs.LooseEvents.{event_node, event_message}
use Rattle.loose_world.specs.LooseRuns.{IsFaultOf}

-- no event belongs both to a node and to a message
node_or_message : (e : Event) (node : NodeNo) (message : LinkNo × ℕ) → event_node e ≡ Some node
    → event_message e ≡ Some message → ⊥
node_or_message (event.Pass time readings) node message one two = none-some node one
node_or_message (event.Start j) node message one two = none-some message two
node_or_message (event.Step j) node message one two = none-some message two
node_or_message (event.Finish j) node message one two = none-some message two
node_or_message (event.Send j) node message one two = none-some message two
node_or_message (event.Arrive link round) node message one two = none-some node one
node_or_message (event.Drop link round) node message one two = none-some node one
node_or_message (event.Repeat link round) node message one two = none-some node one

pub one_fault : (e : Event) (why other : EventFault) → IsFaultOf e why → IsFaultOf e other → why ≡ other
one_fault e (fault.WrongPhase node) (fault.WrongPhase j) one two =
    ap fault.WrongPhase (same_Some node j (sym one ∙ two))
one_fault e (fault.WrongPhase node) (fault.NoSuchMessage link round) one two =
    absurd (node_or_message e node (link, round) one two)
one_fault e (fault.WrongPhase node) _ one two = absurd two
one_fault e (fault.NoSuchMessage link round) (fault.WrongPhase node) one two =
    absurd (node_or_message e node (link, round) two one)
one_fault e (fault.NoSuchMessage link round) (fault.NoSuchMessage l r) one two =
    ap (λ (m : LinkNo × ℕ). fault.NoSuchMessage m.0 m.1) (same_Some (link, round) (l, r) (sym one ∙ two))
one_fault e (fault.NoSuchMessage link round) _ one two = absurd two
one_fault e _ other one two = absurd one
