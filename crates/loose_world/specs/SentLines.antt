-- The lines of the messages that a node has just sent, and the links from each node.
use Rattle.std.specs.Prelude.{◌≡◌, ℕ, ◌-◌, ◌<◌, List, [], ◌∷◌, length, map, flat_map, Option, Some, None}
use Rattle.std.specs.Prelude.{slice_index_or}
use Rattle.pals_base.specs.declared.basic_types.LinkNo.{LinkNo}
use Rattle.pals_model.specs.declared.design.DesignParts.{DesignParts}
use Rattle.pals_model.specs.declared.flight_copy.FlightCopy.{FlightCopy}
use Rattle.pals_model.specs.Flights.{oldest}
use Rattle.pals_model.specs.IncomingAndOutgoingLinks.{links_from}
use Rattle.pals_report.specs.SentMessageLines.{sent_line}
use Rattle.bus_machine.specs.BusStates.{node_at, flight_at}
use Rattle.pals_bus.specs.BusValues.{BusValue}

-- the line of a copy, if there is one
abbrev pub copy_lines : DesignParts → ℕ → ℕ → Option FlightCopy → List (List ℕ)
copy_lines design link round None = []
copy_lines design link round (Some copy) = sent_line design link round copy.tuple ∷ []

-- that of the message of a round that is in flight on a link
abbrev pub message_lines : BusValue → ℕ → ℕ → List (List ℕ)
message_lines b round link = copy_lines b.run.design link round (oldest round (flight_at b.state link))

-- the messages of the last round that a node has started, in order of the links from it
abbrev pub sent_lines : BusValue → ℕ → List (List ℕ)
sent_lines b node = flat_map (message_lines b ((node_at b.state node).count - 1)) (links_from b.run.design node)

-- the links from each node of a design
pub record AreOutLinks (design : DesignParts) (nodes : List (List LinkNo)) : Type 0 where
  pub count : length nodes ≡ length design.components
  pub each : (node : ℕ) → node < length nodes
      → map (λ link. link.0) (slice_index_or nodes node []) ≡ links_from design node
