-- What stands for a plan, node, flight, queue or link number past the end of a list.
use Rattle.std.specs.Prelude.{[]}
use Rattle.pals_base.specs.declared.basic_types.LinkNo.{LinkNo}
use Rattle.link_buffers.specs.proof.Flights.{FlightState, flight_of}
use Rattle.link_buffers.specs.proof.DueQueues.{QueueState, queue_of}
use Rattle.bus_machine.specs.declared.plan.Plan.{Plan}
use Rattle.bus_machine.specs.Plans.{no_behaviour}
use Rattle.bus_machine.specs.BusStates.{no_node}
use Rattle.pals_node.specs.proof.NodeAndJobValues.{NodeValue}
use Rattle.pals_bus.specs.proof.StepCodesOfNodes.{no_code}

abbrev pub no_plan : Plan
no_plan = record {
  node = record { 0 = 0 };
  behaviour = no_behaviour;
  rate = 1;
  inputs = [];
  out_links = [];
  taps = [];
  period = 0;
  step_period = 0;
  sent_steps = 0;
  release_offset = 0;
}

abbrev pub no_node_value : NodeValue
no_node_value = record { program = record { plan = no_plan; code = no_code }; rounds = 0; state = no_node }

abbrev pub no_flight : FlightState
no_flight = flight_of [] 0

abbrev pub no_queue : QueueState
no_queue = queue_of [] 0

abbrev pub no_link_no : LinkNo
no_link_no = record { 0 = 0 }
