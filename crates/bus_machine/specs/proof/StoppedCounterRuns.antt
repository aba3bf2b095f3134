-- Two runs of the two counters, each of which counts on from the other's last value: a message that arrives too early,
-- and a lost message.
use Rattle.std.specs.Prelude.{◌≡◌, ℕ, codes, List, [], ◌∷◌, ◌++◌, map, None}
use Rattle.pals_base.specs.declared.basic_types.NodeNo.{NodeNo}
use Rattle.pals_base.specs.declared.basic_types.LinkNo.{LinkNo}
use Rattle.pals_model.specs.proof.TwoCounters.{two_counters}
use Rattle.pals_model.specs.ComponentInputs.{no_env}
use Rattle.pals_runs.specs.declared.journal.JournalEntry.{JournalEntry}
use Rattle.pals_runs.specs.JournalLines.{entry_line}
use Rattle.bus_machine.specs.BusStates.{BusState, opening}
use Rattle.bus_machine.specs.RunParameters.{Run}
use Rattle.bus_machine.specs.Machine.{BusEvent, Start, Finish, Send, Arrive, Drop, Repeat, after}
use Rattle.bus_machine.specs.Replay.{Replays, entries}

abbrev pub counters : ℕ → Run
counters rounds = record { design = two_counters; env = no_env; rounds = rounds; delays = record { lists = [] } }

abbrev pub a : NodeNo
a = record { 0 = 0 }

abbrev pub b : NodeNo
b = record { 0 = 1 }

-- the links into the first counter and into the second
abbrev pub to_a : LinkNo
to_a = record { 0 = 0 }

abbrev pub to_b : LinkNo
to_b = record { 0 = 1 }

-- ---- the journal and the state that events leave
abbrev pub journal_from : Run → BusState → List BusEvent → List JournalEntry
journal_from run s [] = []
journal_from run s (e ∷ es) = entries run s e ++ journal_from run (after run s e) es

abbrev pub state_from : Run → BusState → List BusEvent → BusState
state_from run s [] = s
state_from run s (e ∷ es) = state_from run (after run s e) es

abbrev pub lines_of : Run → List BusEvent → List (List ℕ)
lines_of run events = map (entry_line run.design) (journal_from run (opening run) events)

-- each event is a step, and the journal replays
abbrev pub IsRun : Run → List BusEvent → Type 0
IsRun run events = Replays run (journal_from run (opening run) events) (state_from run (opening run) events)

-- ---- a message that comes before its target has started the round
abbrev pub early_arrival : List BusEvent
early_arrival = Start a None ∷ Finish a ∷ Send a None ∷ Arrive to_b 0 None ∷ []

abbrev pub early_lines : List (List ℕ)
early_lines =
    codes "start p.a 0 _" ∷ codes "finish p.a 0" ∷ codes "send p.a 0 _" ∷ codes "arrive p.b.i 0 _ early"
    ∷ codes "stop early p.b.i 0 _" ∷ []

-- ---- a message that comes twice, and one that is lost
abbrev pub lost_message : List BusEvent
lost_message =
    Start a None ∷ Finish a ∷ Send a None ∷ Start b None ∷ Finish b ∷ Send b None
    ∷ Repeat to_a 0 ∷ Arrive to_a 0 None ∷ Arrive to_a 0 None ∷ Drop to_b 0
    ∷ Start a None ∷ Start b None ∷ []

abbrev pub lost_lines : List (List ℕ)
lost_lines =
    codes "start p.a 0 _" ∷ codes "finish p.a 0" ∷ codes "send p.a 0 _"
    ∷ codes "start p.b 0 _" ∷ codes "finish p.b 0" ∷ codes "send p.b 0 _"
    ∷ codes "repeat p.a.i 0" ∷ codes "arrive p.a.i 0 _ kept" ∷ codes "arrive p.a.i 0 _ ignored" ∷ codes "drop p.b.i 0"
    ∷ codes "start p.a 1 _" ∷ codes "stop missed p.b.i 0 _ lost" ∷ []

-- the journal of a run, line by line
pub record Tells (run : Run) (events : List BusEvent) (lines : List (List ℕ)) : Type 0 where
  pub replays : IsRun run events
  pub lines_are : lines_of run events ≡ lines
