-- The lines of the messages that one event of a list sends, for the laws of events and messages.
use Rattle.std.proofs.Common.{◌≡◌, ℕ, List, [], ◌∷◌, ◌++◌, Option, Some, None, refl}
use Rattle.std.specs.Prelude.{map}
use Rattle.pals_model.specs.declared.design.DesignParts.{DesignParts}
use Rattle.pals_model.specs.declared.environment.Env.{Env}
use Rattle.pals_model.specs.IncomingAndOutgoingLinks.{links_from}
use Rattle.pals_runs.specs.declared.events_and_faults.Event.{Event}
use Rattle.bus_machine.specs.WorldTexts.{sends_of, sent_line, sent_lines_in}

-- the messages of a round of a node, one on each link from it
abbrev pub round_lines : DesignParts → Env → ℕ → ℕ → List (List ℕ)
round_lines design env node round = map (λ link. sent_line design env link round) (links_from design node)

-- the lines of an event, if the sends before it are of these nodes
abbrev pub event_lines : DesignParts → Env → List ℕ → Option ℕ → List (List ℕ)
event_lines design env before None = []
event_lines design env before (Some node) = round_lines design env node (sends_of node before)

abbrev pub and_sender : List ℕ → Option ℕ → List ℕ
and_sender before None = before
and_sender before (Some node) = before ++ node ∷ []

pub one_event : (design : DesignParts) (env : Env) (before : List ℕ) (events : List Event) (o : Option ℕ)
    (later : List ℕ → List (List ℕ))
    → sent_lines_in design env before events o later ≡ event_lines design env before o ++ later (and_sender before o)
one_event design env before events None later = refl
one_event design env before events (Some node) later = refl
