-- The text of a world: the rounds that its events finished, and the messages that they sent.
use Rattle.std.specs.Prelude.{ℕ, ◌/◌, nat_eq, nat_lt, Bool, false, if◌then◌else◌, List, [], ◌∷◌, ◌++◌, codes, decimal}
use Rattle.std.specs.Prelude.{length, map, fold, max, flat_map, count_by, Option, Some, None, slice_get}
use Rattle.pals_base.specs.UpwardNumbers.{upwards}
use Rattle.pals_model.specs.declared.design.DesignParts.{DesignParts}
use Rattle.pals_model.specs.declared.environment.Env.{Env}
use Rattle.pals_model.specs.declared.part.Part.{Part}
use Rattle.pals_model.specs.IncomingAndOutgoingLinks.{links_from}
use Rattle.pals_model.specs.PortKindsAndRates.{rate_of, out_kind}
use Rattle.pals_model.specs.Composition.{msg, part}
use Rattle.pals_model.specs.RoundTexts.{text_of, tuple_text, row_lines}
use Rattle.pals_runs.specs.declared.events_and_faults.Event.{Event}
use Rattle.pals_runs.specs.JournalLines.{link_word, spaced}
use Rattle.bus_machine.specs.Plans.{link_at}
use Rattle.pals_runs.specs.declared.events_and_faults.Event.TheVariants as event

abbrev pub is_finish : ℕ → Event → Bool
is_finish node (event.Pass time readings) = false
is_finish node (event.Start j) = false
is_finish node (event.Step j) = false
is_finish node (event.Finish j) = nat_eq j.0 node
is_finish node (event.Send j) = false
is_finish node (event.Arrive link round) = false
is_finish node (event.Drop link round) = false
is_finish node (event.Repeat link round) = false

-- the node that an event sends from
abbrev pub sender : Event → Option ℕ
sender (event.Pass time readings) = None
sender (event.Start j) = None
sender (event.Step j) = None
sender (event.Finish j) = None
sender (event.Send j) = Some j.0
sender (event.Arrive link round) = None
sender (event.Drop link round) = None
sender (event.Repeat link round) = None

-- ---- rounds
-- how many rounds a component has finished: one for each of its steps in a round
abbrev pub finished_by : DesignParts → List Event → ℕ → ℕ
finished_by design events node = count_by (is_finish node) events / rate_of design node

abbrev pub part_shown : DesignParts → Env → List Event → ℕ → ℕ → Option Part
part_shown design env events round node =
    if nat_lt round (finished_by design events node) then Some (part design env node round) else None

-- the rounds that some component has finished
abbrev pub rounds_shown : DesignParts → List Event → ℕ
rounds_shown design events = fold max 0 (map (finished_by design events) (upwards 0 (length design.components)))

-- each with those components that have finished it
abbrev pub world_rows : DesignParts → Env → List Event → List (List ℕ)
world_rows design env events =
    flat_map (λ round. row_lines design (part_shown design env events round) round)
    (upwards 0 (rounds_shown design events))

-- ---- messages
abbrev pub sent_line : DesignParts → Env → ℕ → ℕ → List ℕ
sent_line design env link round =
    let l = link_at design link in
    spaced (codes "sent" ∷ link_word design link ∷ decimal round
    ∷ tuple_text (out_kind (slice_get design.components l.source.0) l.out_port) (msg design env link round) ∷ [])

-- the number of these sends that belong to a node
abbrev pub sends_of : ℕ → List ℕ → ℕ
sends_of node senders = count_by (nat_eq node) senders

-- a send shows a message on each link from its node; its round is the number of that node's sends before it
abbrev pub sent_lines_in : DesignParts → Env → List ℕ → List Event → Option ℕ → (List ℕ → List (List ℕ)) → List (List ℕ)
sent_lines_in design env before events None later = later before
sent_lines_in design env before events (Some node) later =
    map (λ link. sent_line design env link (sends_of node before)) (links_from design node)
    ++ later (before ++ node ∷ [])

abbrev pub sent_lines : DesignParts → Env → List Event → List ℕ → List (List ℕ)
sent_lines design env [] before = []
sent_lines design env (e ∷ events) before =
    sent_lines_in design env before events (sender e) (sent_lines design env events)

-- ---- the whole
abbrev pub world_lines : DesignParts → Env → List Event → List (List ℕ)
world_lines design env events = world_rows design env events ++ sent_lines design env events []

abbrev pub worldtext : DesignParts → Env → List Event → List ℕ
worldtext design env events = text_of (world_lines design env events)
