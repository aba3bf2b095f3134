-- The nodes that events send from.
use Rattle.std.specs.Prelude.{ℕ, List, [], ◌∷◌, Option, Some, None}
use Rattle.pals_runs.specs.declared.events_and_faults.Event.{Event}
use Rattle.bus_machine.specs.WorldTexts.{sender}

abbrev pub with_sender : Option ℕ → List ℕ → List ℕ
with_sender None nodes = nodes
with_sender (Some node) nodes = node ∷ nodes

-- the node of each send, in order
abbrev pub senders : List Event → List ℕ
senders [] = []
senders (e ∷ events) = with_sender (sender e) (senders events)
