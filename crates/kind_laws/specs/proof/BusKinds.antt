-- The law of the kinds of values in the states of the bus.
use Rattle.std.specs.Prelude.{◌≡◌, ℕ, List, All, Some, slice_get}
use Rattle.pals_base.specs.declared.basic_types.PortValue.{PortValue}
use Rattle.pals_model.specs.declared.design.Component.{Component}
use Rattle.pals_model.specs.declared.design.Link.{Link}
use Rattle.pals_model.specs.declared.flight_copy.FlightCopy.{FlightCopy}
use Rattle.pals_model.specs.DesignRules.{IsDesign}
use Rattle.pals_model.specs.proof.ValuesFitKinds.{FrameFits, PortsFit, TupleFits, link_kind, EnvFits}
use Rattle.pals_model.specs.proof.CompositionLaws.Kinds.{PartFits}
use Rattle.bus_machine.specs.Plans.{plan_of}
use Rattle.bus_machine.specs.Nodes.{StepWork, job_out}
use Rattle.bus_machine.specs.NodeEvents.{slot_at}
use Rattle.bus_machine.specs.BusStates.{BusState, node_at, flight_at}
use Rattle.bus_machine.specs.RunParameters.{Run}
use Rattle.bus_machine.specs.Agreement.{Agrees}

pub record BusFits (run : Run) (s : BusState) : Type 0 where
  -- the frame of each node
  pub frames : (node : ℕ) (c : Component) → slice_get run.design.components node ≡ Some c
      → FrameFits c.behaviour (node_at s node).frame
  -- the inputs of its job that is out
  pub jobs : (node : ℕ) (c : Component) (job : StepWork) → slice_get run.design.components node ≡ Some c
      → job_out (plan_of run.design node) (node_at s node) ≡ Some job → PortsFit c.behaviour.ins job.inputs
  -- the part of each round that it finished
  pub parts : (node : ℕ) (c : Component) → slice_get run.design.components node ≡ Some c
      → All (PartFits run.design node c) (node_at s node).parts
  -- the message in the slot of a link's in port
  pub slots : (number : ℕ) (link : Link) (message : List PortValue) → slice_get run.design.links number ≡ Some link
      → slot_at (node_at s link.target.0) link.in_port ≡ Some message → TupleFits (link_kind run.design link) message
  -- each copy in flight
  pub flights : (number : ℕ) (link : Link) → slice_get run.design.links number ≡ Some link
      → All (λ (copy : FlightCopy). TupleFits (link_kind run.design link) copy.tuple) (flight_at s number)

abbrev pub BusesFit : Type 0
BusesFit = (run : Run) (s : BusState) → IsDesign run.design → EnvFits run.design run.env → Agrees run s → BusFits run s
