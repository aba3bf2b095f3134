-- The meaning of the field of events for a command, or its first fault.
use Rattle.std.specs.Prelude.{ℕ, nat_eq, bytes_eq, codes, decimal, List, [], ◌∷◌, ◌++◌, length, Bool, true, false, ◌&&◌}
use Rattle.std.specs.Prelude.{Option, Some, None, option_and_then, Result, Ok, Err, if◌then◌else◌}
use Rattle.std.specs.List.{list_all}
use Rattle.serde_json.specs.Data.{Data}
use Rattle.serde_json.specs.Find.{as_str}
use Rattle.pals_base.specs.declared.basic_types.NodeNo.{NodeNo}
use Rattle.pals_base.specs.declared.basic_types.LinkNo.{LinkNo}
use Rattle.pals_base.specs.declared.limits.TheConstants.{READING, ROUNDS, LIST_ITEMS}
use Rattle.pals_model.specs.declared.design.DesignParts.{DesignParts}
use Rattle.pals_runs.specs.declared.commands.Command.{Command}
use Rattle.pals_runs.specs.declared.commands.Command.TheVariants.{World}
use Rattle.pals_runs.specs.declared.events_and_faults.Event.{Event}
use Rattle.scenario_values.specs.declared.fault.ScenarioFault.{ScenarioFault}
use Rattle.scenario_values.specs.declared.fault.ScenarioFault.TheVariants.{WrongKind, OutOfRange}
use Rattle.scenario_json.specs.declared.events.EventWord.{EventWord}
use Rattle.scenario_json.specs.declared.events.EventWord.TheVariants.{Pass, Start, Step, Finish, Send, Arrive, Drop}
use Rattle.scenario_json.specs.declared.events.EventWord.TheVariants.{Repeat}
use Rattle.scenario_values.specs.ResultCombinators.{◌>>=◌, given, only_if, through}
use Rattle.scenario_values.specs.FaultPlaces.{inside}
use Rattle.scenario_values.specs.FieldValues.{elements, short_list, text, whole, is_whole}
use Rattle.scenario_values.specs.NameLookup.{node_no, link_no, node_at, link_at}
use Rattle.pals_runs.specs.declared.events_and_faults.Event.TheVariants as event

-- ---- words
-- the kind of event with a name
abbrev pub word_of : List ℕ → Option EventWord
word_of name =
    if bytes_eq name (codes "pass") then Some Pass else if bytes_eq name (codes "start") then Some Start
    else if bytes_eq name (codes "step") then Some Step else if bytes_eq name (codes "finish") then Some Finish
    else if bytes_eq name (codes "send") then Some Send else if bytes_eq name (codes "arrive") then Some Arrive
    else if bytes_eq name (codes "drop") then Some Drop else if bytes_eq name (codes "repeat") then Some
    Repeat else None

-- a loose world has no time, and in a timed world no message is lost or repeated; the events of other commands may
-- have any word
abbrev pub is_usual : Command → EventWord → Bool
is_usual (World root true) Pass = false
is_usual (World root false) Drop = false
is_usual (World root false) Repeat = false
is_usual command word = true

-- ---- parts
-- the node of an event with a node
unfoldable pub node_part : DesignParts → List ℕ → List Data → Result NodeNo ScenarioFault
node_part design place (d ∷ []) = text place d >>= λ path. node_at place design path >>= λ node. Ok (node_no node)
node_part design place ds = Err (WrongKind place)

-- the link and the round of an event with these parts
unfoldable pub link_parts : DesignParts → List ℕ → List Data → Result (LinkNo × ℕ) ScenarioFault
link_parts design place (d ∷ round ∷ []) =
    text place d >>= λ name. only_if (is_whole round) (WrongKind place)
    (link_at place design name >>= λ link. whole place 0 ROUNDS round >>= λ r. Ok (link_no link, r))
link_parts design place ds = Err (WrongKind place)

-- one more reading of a pass
abbrev pub with_number : List ℕ → List ℕ → Data → Result (List ℕ) ScenarioFault
with_number place numbers d = whole place 0 READING d >>= λ n. Ok (numbers ++ n ∷ [])

abbrev pub reading_parts : List ℕ → List Data → Result (List ℕ) ScenarioFault
reading_parts place ds = through (with_number place) [] ds

-- the time of a pass, and one reading for each component
unfoldable pub pass_parts : DesignParts → List ℕ → List Data → Result (ℕ × List ℕ) ScenarioFault
pass_parts design place (time ∷ readings ∷ []) =
    elements place readings >>= λ ds. only_if (is_whole time && list_all is_whole ds) (WrongKind place)
    (whole place 0 READING time >>= λ t. only_if (nat_eq (length ds) (length design.components)) (OutOfRange place)
    (reading_parts place ds >>= λ numbers. Ok (t, numbers)))
pass_parts design place ds = Err (WrongKind place)

-- ---- events
unfoldable pub event_of : DesignParts → List ℕ → EventWord → List Data → Result Event ScenarioFault
event_of design place Pass ds = pass_parts design place ds >>= λ p. Ok (event.Pass p.0 p.1)
event_of design place Start ds = node_part design place ds >>= λ n. Ok (event.Start n)
event_of design place Step ds = node_part design place ds >>= λ n. Ok (event.Step n)
event_of design place Finish ds = node_part design place ds >>= λ n. Ok (event.Finish n)
event_of design place Send ds = node_part design place ds >>= λ n. Ok (event.Send n)
event_of design place Arrive ds = link_parts design place ds >>= λ p. Ok (event.Arrive p.0 p.1)
event_of design place Drop ds = link_parts design place ds >>= λ p. Ok (event.Drop p.0 p.1)
event_of design place Repeat ds = link_parts design place ds >>= λ p. Ok (event.Repeat p.0 p.1)

-- the first word of an event, if this command's events may have it
unfoldable pub usual_word : Command → List ℕ → Data → Result EventWord ScenarioFault
usual_word command place d =
    given (WrongKind place) (option_and_then word_of (as_str d)) >>= λ word.
    only_if (is_usual command word) (WrongKind place) (Ok word)

abbrev pub event_from : DesignParts → Command → List ℕ → List Data → Result Event ScenarioFault
event_from design command place [] = Err (WrongKind place)
event_from design command place (d ∷ ds) = usual_word command place d >>= λ word. event_of design place word ds

unfoldable pub event_in : DesignParts → Command → List ℕ → Data → Result Event ScenarioFault
event_in design command place d = elements place d >>= λ ds. event_from design command place ds

abbrev pub with_event : DesignParts → Command → List Event → Data → Result (List Event) ScenarioFault
with_event design command events d =
    event_in design command (inside (codes "events") (decimal (length events))) d >>= λ e. Ok (events ++ e ∷ [])

unfoldable pub events_in : DesignParts → Command → Data → Result (List Event) ScenarioFault
events_in design command d =
    short_list (codes "events") LIST_ITEMS d >>= λ ds. through (with_event design command) [] ds
