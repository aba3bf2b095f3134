-- Which message a start of a node would miss, and why: it was not sent, it is in flight, or it was lost.
use Rattle.std.specs.Prelude.{ℕ, nat_lt, if◌then◌else◌, position, Option, option_map}
use Rattle.std.specs.Option.{unwrap_or}
use Rattle.pals_model.specs.declared.design.DesignParts.{DesignParts}
use Rattle.pals_model.specs.ComponentInputs.{link_goes_to}
use Rattle.pals_runs.specs.declared.journal.Cause.{Cause}
use Rattle.pals_runs.specs.declared.journal.Cause.TheVariants.{NotSent, InTransit, Lost}
use Rattle.bus_machine.specs.Plans.{plan_of, link_at}
use Rattle.bus_machine.specs.NodeEvents.{missing}
use Rattle.bus_machine.specs.LinkEvents.{is_in_flight}
use Rattle.bus_machine.specs.BusStates.{BusState, node_at, flight_at}
use Rattle.bus_machine.specs.RunParameters.{Run}
use Rattle.bus_machine.specs.Nodes.{sent_rounds}

-- the link into an in port
abbrev pub link_into : DesignParts → ℕ → ℕ → ℕ
link_into design node port = unwrap_or (position (link_goes_to node port) design.links) 0

-- the first link whose message a start of this node would miss
abbrev pub missing_link : Run → BusState → ℕ → Option ℕ
missing_link run s node = option_map (link_into run.design node) (missing (plan_of run.design node) (node_at s node))

-- how many rounds the source of a link has sent
abbrev pub rounds_sent_on : Run → BusState → ℕ → ℕ
rounds_sent_on run s link = sent_rounds (node_at s (link_at run.design link).source.0)

-- why a link's message of a round is not there: it was not sent, it is in flight, or it was lost
abbrev pub cause_of : Run → BusState → ℕ → ℕ → Cause
cause_of run s link round =
    if nat_lt round (rounds_sent_on run s link) then (if is_in_flight round (flight_at s link) then InTransit else Lost)
    else NotSent
