-- Worlds: a run with the time, the readings of its clocks, and the times of the last changes. All are nanoseconds.
use Rattle.std.specs.Prelude.{ℕ, ◌+◌, nat_eq, Bool, true, false, if◌then◌else◌, List, [], ◌∷◌, ◌++◌, map, Option, Some}
use Rattle.std.specs.Prelude.{None, is_none, slice_index_or, slice_set}
use Rattle.pals_model.specs.declared.design.Component.{Component}
use Rattle.pals_model.specs.declared.design.Link.{Link}
use Rattle.pals_model.specs.declared.design.DesignParts.{DesignParts}
use Rattle.pals_model.specs.declared.environment.Env.{Env}
use Rattle.pals_runs.specs.declared.phase.Phase.{Phase}
use Rattle.pals_runs.specs.declared.phase.Phase.TheVariants.{Waiting, Running, Between, Holding, Done}
use Rattle.pals_runs.specs.declared.events_and_faults.Event.{Event}
use Rattle.bus_machine.specs.Plans.{plan_of, link_at}
use Rattle.bus_machine.specs.NodeEvents.{running_step}
use Rattle.bus_machine.specs.BusStates.{BusState, opening, node_at}
use Rattle.bus_machine.specs.RunParameters.{Run}
use Rattle.bus_machine.specs.MissedMessages.{missing_link}
use Rattle.bus_machine.specs.Machine.{BusEvent, Start, Step, Finish, Send, Arrive, Drop, Repeat, after}
use Rattle.pals_runs.specs.declared.events_and_faults.Event.TheVariants as event

pub record World : Type 0 where
  pub bus : BusState
  pub time : ℕ
  -- of each node's clock
  pub readings : List ℕ
  -- the time since which each node is in its phase
  pub since : List ℕ
  -- since when each node has finished as many steps of its round as are sent
  pub ready : List ℕ
  -- when each node sent each of its rounds
  pub sent_at : List (List ℕ)

-- the run of a world: a message takes the minimum delay of the bounds
abbrev pub world_run : DesignParts → Env → ℕ → Run
world_run design env rounds = record {
  design = design;
  env = env;
  rounds = rounds;
  delays = record { lists = map (λ (_ : Link). design.gamma.mu_min ∷ []) design.links };
}

abbrev pub zeros : DesignParts → List ℕ
zeros design = map (λ (_ : Component). 0) design.components

abbrev pub opening_world : Run → World
opening_world run = record {
  bus = opening run;
  time = 0;
  readings = zeros run.design;
  since = zeros run.design;
  ready = zeros run.design;
  sent_at = map (λ (_ : Component). []) run.design.components;
}

-- ---- functions of a world
abbrev pub reading_at : World → ℕ → ℕ
reading_at w node = slice_index_or w.readings node 0

abbrev pub since_at : World → ℕ → ℕ
since_at w node = slice_index_or w.since node 0

abbrev pub ready_at : World → ℕ → ℕ
ready_at w node = slice_index_or w.ready node 0

-- since when a link's message of a round is in flight
abbrev pub flight_since : Run → World → ℕ → ℕ → ℕ
flight_since run w link round = slice_index_or (slice_index_or w.sent_at (link_at run.design link).source.0 []) round 0

-- ---- the effect of an event
-- the event of the bus: an event that shows a clock has the reading of its node, and an arrival has no reading
abbrev pub bus_event : World → Event → Option BusEvent
bus_event w (event.Pass time readings) = None
bus_event w (event.Start node) = Some (Start node (Some (reading_at w node.0)))
bus_event w (event.Step node) = Some (Step node (Some (reading_at w node.0)))
bus_event w (event.Finish node) = Some (Finish node)
bus_event w (event.Send node) = Some (Send node (Some (reading_at w node.0)))
bus_event w (event.Arrive link round) = Some (Arrive link round None)
bus_event w (event.Drop link round) = Some (Drop link round)
bus_event w (event.Repeat link round) = Some (Repeat link round)

abbrev pub bus_after : Run → World → Option BusEvent → BusState
bus_after run w None = w.bus
bus_after run w (Some e) = after run w.bus e

-- the moment of a node, where it changes
abbrev pub moved : Bool → List ℕ → ℕ → ℕ → List ℕ
moved changes moments node time = if changes then slice_set moments node time else moments

-- the step of a finish is the last one that is sent
abbrev pub is_last_sent : ℕ → Option ℕ → Bool
is_last_sent count None = false
is_last_sent count (Some step) = nat_eq (step + 1) count

abbrev pub is_held : Phase → Bool
is_held Waiting = false
is_held (Running step) = false
is_held (Between steps) = false
is_held Holding = true
is_held Done = false

abbrev pub sendings : World → ℕ → List ℕ
sendings w node = slice_index_or w.sent_at node []

-- time passes only in a Pass; each other event is an event of the bus
abbrev pub world_after : Run → World → Event → World
world_after run w (event.Pass time readings) = record w { time = time; readings = readings }
world_after run w (event.Start node) = record w {
  bus = bus_after run w (bus_event w (event.Start node));
  since = moved (is_none (missing_link run w.bus node.0)) w.since node.0 w.time;
}
world_after run w (event.Step node) =
    record w { bus = bus_after run w (bus_event w (event.Step node)); since = slice_set w.since node.0 w.time }
world_after run w (event.Finish node) = record w {
  bus = bus_after run w (bus_event w (event.Finish node));
  since = slice_set w.since node.0 w.time;
  ready =
      moved (is_last_sent (plan_of run.design node.0).sent_steps (running_step (node_at w.bus node.0).phase)) w.ready
      node.0 w.time;
}
world_after run w (event.Send node) = record w {
  bus = bus_after run w (bus_event w (event.Send node));
  since = moved (is_held (node_at w.bus node.0).phase) w.since node.0 w.time;
  sent_at = slice_set w.sent_at node.0 (sendings w node.0 ++ w.time ∷ []);
}
world_after run w (event.Arrive link round) = record w { bus = bus_after run w (bus_event w (event.Arrive link round)) }
world_after run w (event.Drop link round) = record w { bus = bus_after run w (bus_event w (event.Drop link round)) }
world_after run w (event.Repeat link round) = record w { bus = bus_after run w (bus_event w (event.Repeat link round)) }
