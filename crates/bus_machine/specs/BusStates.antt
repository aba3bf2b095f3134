-- The state of a run's bus: its nodes, the copies in flight on its links, and perhaps a stop.
use Rattle.std.specs.Prelude.{ℕ, true, List, [], length, map, Option, None, slice_index_or, slice_set, fold, min}
use Rattle.pals_base.specs.UpwardNumbers.{upwards}
use Rattle.pals_model.specs.declared.design.Link.{Link}
use Rattle.pals_model.specs.declared.flight_copy.FlightCopy.{FlightCopy}
use Rattle.pals_model.specs.Composition.{no_frame}
use Rattle.pals_runs.specs.declared.phase.Phase.TheVariants.{Done}
use Rattle.pals_runs.specs.declared.journal.Stop.{Stop}
use Rattle.bus_machine.specs.Plans.{plan_of}
use Rattle.bus_machine.specs.Nodes.{NodeState, opening_node}
use Rattle.bus_machine.specs.RunParameters.{Run}

pub record BusState : Type 0 where
  pub nodes : List NodeState
  -- the copies in flight on each link
  pub flights : List (List FlightCopy)
  pub stop : Option Stop

abbrev pub opening : Run → BusState
opening run = record {
  nodes = map (λ node. opening_node (plan_of run.design node)) (upwards 0 (length run.design.components));
  flights = map (λ (_ : Link). []) run.design.links;
  stop = None;
}

-- ---- elements by number
-- a node that does not exist has nothing to do
abbrev pub no_node : NodeState
no_node =
    record { count = 0; phase = Done; frame = no_frame; slots = []; vectors = []; outs = []; sent = true; parts = [] }

abbrev pub node_at : BusState → ℕ → NodeState
node_at s node = slice_index_or s.nodes node no_node

abbrev pub flight_at : BusState → ℕ → List FlightCopy
flight_at s link = slice_index_or s.flights link []

abbrev pub with_node : BusState → ℕ → NodeState → BusState
with_node s node n = record s { nodes = slice_set s.nodes node n }

abbrev pub with_flight : BusState → ℕ → List FlightCopy → BusState
with_flight s link flight = record s { flights = slice_set s.flights link flight }

-- ---- rounds
-- how many rounds all nodes have finished: without nodes, all of the run
abbrev pub finished_by_all : Run → BusState → ℕ
finished_by_all run s = fold (λ least (n : NodeState). min least (length n.parts)) run.rounds s.nodes
