-- When the nodes, slots and flights of a run agree with the composition.
use Rattle.std.specs.Prelude.{◌≡◌, ℕ, suc, ◌<◌, ◌≤◌, true, false, List, length, map, All, Option, Some, None, slice_get}
use Rattle.pals_base.specs.declared.basic_types.PortValue.{PortValue}
use Rattle.pals_base.specs.StepSequences.{Stepped}
use Rattle.pals_base.specs.UpwardNumbers.{upwards}
use Rattle.pals_model.specs.declared.design.Component.{Component}
use Rattle.pals_model.specs.declared.design.Link.{Link}
use Rattle.pals_model.specs.declared.flight_copy.FlightCopy.{FlightCopy}
use Rattle.pals_model.specs.ComponentInputs.{input_vectors}
use Rattle.pals_model.specs.Composition.{comp, state, msg, part, partial_steps}
use Rattle.pals_runs.specs.declared.phase.Phase.{Phase}
use Rattle.pals_runs.specs.declared.phase.Phase.TheVariants.{Waiting, Running, Between, Holding, Done}
use Rattle.bus_machine.specs.Nodes.{NodeState}
use Rattle.bus_machine.specs.NodeEvents.{slot_at}
use Rattle.bus_machine.specs.BusStates.{BusState, node_at, flight_at}
use Rattle.bus_machine.specs.RunParameters.{Run}
use Rattle.bus_machine.specs.MissedMessages.{rounds_sent_on}

-- ---- nodes
-- between two rounds a node has finished and sent every round that it started, and its frame is the state after them
pub record IsAtRest (run : Run) (node : ℕ) (n : NodeState) : Type 0 where
  pub finished : length n.parts ≡ n.count
  pub frame : n.frame ≡ state run.design run.env node n.count
  pub sent : n.sent ≡ true

abbrev pub reached : NodeState → Stepped
reached n = record { frame = n.frame; tuples = n.outs }

-- within a round, after some of its steps: the frame and the outputs are the results of these steps of the
-- composition, and the inputs are that round's
pub record IsUnderWay (run : Run) (node : ℕ) (c : Component) (n : NodeState) (steps : ℕ) : Type 0 where
  pub round : ℕ
  pub count : n.count ≡ suc round
  pub reached : reached n ≡ partial_steps run.design run.env node round c steps
  pub vectors : n.vectors ≡ input_vectors run.design run.env (comp run.design run.env round).messages node round

-- a step is still to be finished
pub record IsInRound (run : Run) (node : ℕ) (c : Component) (n : NodeState) (steps : ℕ) : Type 0 where
  pub within : steps < c.rate
  pub under_way : IsUnderWay run node c n steps
  pub finished : suc (length n.parts) ≡ n.count

-- all steps are finished, and the round is to be sent
pub record IsHeld (run : Run) (node : ℕ) (c : Component) (n : NodeState) : Type 0 where
  pub under_way : IsUnderWay run node c n c.rate
  pub finished : length n.parts ≡ n.count
  pub sent : n.sent ≡ false

abbrev pub PhaseAgrees : Run → ℕ → Component → NodeState → Phase → Type 0
PhaseAgrees run node c n Waiting = IsAtRest run node n × (n.count < run.rounds)
PhaseAgrees run node c n (Running step) = IsInRound run node c n step
PhaseAgrees run node c n (Between steps) = IsInRound run node c n steps × (0 < steps)
PhaseAgrees run node c n Holding = IsHeld run node c n
PhaseAgrees run node c n Done = IsAtRest run node n × (n.count ≡ run.rounds)

-- the parts are the parts of the finished rounds, in order
abbrev pub PartsAgree : Run → ℕ → NodeState → Type 0
PartsAgree run node n = n.parts ≡ map (λ round. part run.design run.env node round) (upwards 0 (length n.parts))

pub record NodeAgrees (run : Run) (node : ℕ) (c : Component) (n : NodeState) : Type 0 where
  pub phase : PhaseAgrees run node c n n.phase
  pub parts : PartsAgree run node n
  pub rounds : n.count ≤ run.rounds
  pub slots : length n.slots ≡ length c.behaviour.ins

-- ---- links
-- a message that waits in a slot is that of the round before the next one
abbrev pub SlotAgrees : Run → ℕ → ℕ → Option (List PortValue) → Type 0
SlotAgrees run link count None = Unit {0}
SlotAgrees run link count (Some tuple) = (round : ℕ) × (count ≡ suc round) × (tuple ≡ msg run.design run.env link round)

-- a copy in flight is the message of a round that its source has sent
pub record IsCopy (run : Run) (link sent : ℕ) (copy : FlightCopy) : Type 0 where
  pub round : copy.round < sent
  pub tuple : copy.tuple ≡ msg run.design run.env link copy.round

pub record LinkAgrees (run : Run) (s : BusState) (number : ℕ) (link : Link) : Type 0 where
  pub slot : SlotAgrees run number (node_at s link.target.0).count (slot_at (node_at s link.target.0) link.in_port)
  pub flight : All (IsCopy run number (rounds_sent_on run s number)) (flight_at s number)

-- ---- the whole
pub record Agrees (run : Run) (s : BusState) : Type 0 where
  pub node_count : length s.nodes ≡ length run.design.components
  pub flight_count : length s.flights ≡ length run.design.links
  pub nodes : (node : ℕ) (c : Component) → slice_get run.design.components node ≡ Some c
      → NodeAgrees run node c (node_at s node)
  pub links : (number : ℕ) (link : Link) → slice_get run.design.links number ≡ Some link → LinkAgrees run s number link
