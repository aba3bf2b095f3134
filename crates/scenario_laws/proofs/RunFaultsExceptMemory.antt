-- Reading the fields of a run (inputs, delays, clocks, events, trace) has no fault `Memory`: for the claim that
-- bytes mean a scenario or have a first fault.
use Rattle.std.proofs.Common.{ℕ, Bool, true, false, List, [], ◌∷◌}
use Rattle.std.specs.Prelude.{option_and_then, codes, decimal, length, Ok, if◌then◌else◌}
use Rattle.serde_json.specs.Data.{Data}
use Rattle.serde_json.specs.Find.{as_str}
use Rattle.scenario_values.specs.declared.fault.ScenarioFault.TheVariants.{WrongKind}
use Rattle.pals_base.specs.declared.behaviour.Kind.{Kind}
use Rattle.pals_base.specs.declared.limits.TheConstants.{HOUR, READING, ROUNDS, LIST_ITEMS}
use Rattle.pals_base.specs.declared.basic_types.PortValue.{PortValue}
use Rattle.pals_clock.specs.ClockStates.{ClockState}
use Rattle.pals_clock.specs.declared.clock.Clocks.TheVariants.{Meet}
use Rattle.pals_model.specs.declared.design.DesignParts.{DesignParts}
use Rattle.pals_model.specs.PortKindsAndRates.{root_kind}
use Rattle.pals_runs.specs.declared.commands.Command.{Command}
use Rattle.pals_runs.specs.declared.events_and_faults.Event.{Event}
use Rattle.scenario_values.specs.FaultPlaces.{inside}
use Rattle.scenario_json.specs.declared.events.EventWord.{EventWord}
use Rattle.scenario_json.specs.declared.events.EventWord.TheVariants.{Pass, Start, Step, Finish, Send, Arrive, Drop}
use Rattle.scenario_json.specs.declared.events.EventWord.TheVariants.{Repeat}
use Rattle.scenario_json.specs.InputsAndDelays.{with_value, value_list, with_input, inputs_in, with_delay, delay_list}
use Rattle.scenario_json.specs.InputsAndDelays.{with_link_delays, delays_in}
use Rattle.scenario_json.specs.Traces.{with_line, trace_in}
use Rattle.scenario_json.specs.Clocks.{last_of, with_reading, reading_list, with_clock, clock_lists, is_meet, clocks_in}
use Rattle.scenario_json.specs.Events.{word_of, node_part, link_parts, with_number, pass_parts, event_of, usual_word}
use Rattle.scenario_json.specs.Events.{event_from, event_in, with_event, events_in}
use Rattle.scenario_laws.proofs.OutcomesWithoutMemoryFault.{IsNotMemory, ok, wrong, out, bind, given_named, only}
use Rattle.scenario_laws.proofs.OutcomesWithoutMemoryFault.{through_named}
use Rattle.scenario_laws.proofs.ValueFaultsExceptMemory.{elements_named, entries_named, short_list_named, whole_named}
use Rattle.scenario_laws.proofs.ValueFaultsExceptMemory.{text_named}
use Rattle.scenario_laws.proofs.ValueFaultsExceptMemory.{port_value_named, node_at_named, link_at_named, root_at_named}

-- ---- inputs
with_value_named : (kind : Kind) (place : List ℕ) (values : List PortValue) (d : Data)
    → IsNotMemory (with_value kind place values d)
with_value_named kind place values d =
    bind _ _ (port_value_named kind (inside place (decimal (length values))) d) (λ v. ok)

value_list_named : (kind : Kind) (place : List ℕ) (d : Data) → IsNotMemory (value_list kind place d)
unfolding value_list
value_list_named kind place d =
    bind _ _ (elements_named place d) (λ ds. through_named (with_value kind place) (with_value_named kind place) [] ds)

with_input_named : (design : DesignParts) (lists : List (List PortValue)) (entry : List ℕ × Data)
    → IsNotMemory (with_input design lists entry)
unfolding with_input
with_input_named design lists entry =
    let place = inside (codes "inputs") entry.0 in
    bind _ _ (root_at_named place design entry.0)
    (λ root. bind _ _ (value_list_named (root_kind design entry.0) place entry.1) (λ values. ok))

pub inputs_named : (design : DesignParts) (d : Data) → IsNotMemory (inputs_in design d)
unfolding inputs_in
inputs_named design d =
    bind _ _ (entries_named (codes "inputs") d) (λ es. through_named (with_input design) (with_input_named design) _ es)

-- ---- delays
with_delay_named : (place delays : List ℕ) (d : Data) → IsNotMemory (with_delay place delays d)
with_delay_named place delays d = bind _ _ (whole_named (inside place (decimal (length delays))) 0 HOUR d) (λ n. ok)

delay_list_named : (place : List ℕ) (d : Data) → IsNotMemory (delay_list place d)
unfolding delay_list
delay_list_named place d =
    bind _ _ (elements_named place d)
    (λ ds. only _ _ _ out (through_named (with_delay place) (with_delay_named place) [] ds))

with_link_delays_named : (design : DesignParts) (lists : List (List ℕ)) (entry : List ℕ × Data)
    → IsNotMemory (with_link_delays design lists entry)
unfolding with_link_delays
with_link_delays_named design lists entry =
    let place = inside (codes "delays") entry.0 in
    bind _ _ (link_at_named place design entry.0) (λ link. bind _ _ (delay_list_named place entry.1) (λ delays. ok))

pub delays_named : (design : DesignParts) (d : Data) → IsNotMemory (delays_in design d)
unfolding delays_in
delays_named design d =
    bind _ _ (entries_named (codes "delays") d)
    (λ es. through_named (with_link_delays design) (with_link_delays_named design) _ es)

-- ---- traces
with_line_named : (lines : List (List ℕ)) (d : Data) → IsNotMemory (with_line lines d)
with_line_named lines d = bind _ _ (text_named (inside (codes "trace") (decimal (length lines))) d) (λ line. ok)

pub trace_named : (d : Data) → IsNotMemory (trace_in d)
unfolding trace_in
trace_named d =
    bind _ _ (short_list_named (codes "trace") LIST_ITEMS d) (λ ds. through_named with_line with_line_named [] ds)

-- ---- clocks
with_reading_named : (place readings : List ℕ) (d : Data) → IsNotMemory (with_reading place readings d)
with_reading_named place readings d =
    bind _ _ (whole_named (inside place (decimal (length readings))) (last_of readings) READING d) (λ n. ok)

reading_list_named : (place : List ℕ) (d : Data) → IsNotMemory (reading_list place d)
unfolding reading_list
reading_list_named place d =
    bind _ _ (short_list_named place LIST_ITEMS d)
    (λ ds. through_named (with_reading place) (with_reading_named place) [] ds)

with_clock_named : (design : DesignParts) (clocks : List ClockState) (entry : List ℕ × Data)
    → IsNotMemory (with_clock design clocks entry)
unfolding with_clock
with_clock_named design clocks entry =
    let place = inside (codes "clocks") entry.0 in
    bind _ _ (node_at_named place design entry.0) (λ node. bind _ _ (reading_list_named place entry.1) (λ readings. ok))

clock_lists_named : (design : DesignParts) (d : Data) → IsNotMemory (clock_lists design d)
unfolding clock_lists
clock_lists_named design d =
    bind _ _ (entries_named (codes "clocks") d)
    (λ es. bind _ _ (through_named (with_clock design) (with_clock_named design) _ es) (λ clocks. ok))

meet_or : (design : DesignParts) (d : Data) (b : Bool) → IsNotMemory (if b then Ok Meet else clock_lists design d)
meet_or design d true = ok
meet_or design d false = clock_lists_named design d

pub clocks_named : (design : DesignParts) (d : Data) → IsNotMemory (clocks_in design d)
unfolding clocks_in
clocks_named design d = meet_or design d (is_meet d)

-- ---- events
node_part_named : (design : DesignParts) (place : List ℕ) (ds : List Data) → IsNotMemory (node_part design place ds)
unfolding node_part
node_part_named design place [] = wrong
node_part_named design place (d ∷ []) =
    bind _ _ (text_named place d) (λ path. bind _ _ (node_at_named place design path) (λ node. ok))
node_part_named design place (d ∷ e ∷ ds) = wrong

link_parts_named : (design : DesignParts) (place : List ℕ) (ds : List Data) → IsNotMemory (link_parts design place ds)
unfolding link_parts
link_parts_named design place [] = wrong
link_parts_named design place (d ∷ []) = wrong
link_parts_named design place (d ∷ round ∷ []) =
    bind _ _ (text_named place d)
    (λ name. only _ _ _ wrong
    (bind _ _ (link_at_named place design name)
    (λ link. bind _ _ (whole_named place 0 ROUNDS round) (λ r. ok))))
link_parts_named design place (d ∷ round ∷ e ∷ ds) = wrong

with_number_named : (place numbers : List ℕ) (d : Data) → IsNotMemory (with_number place numbers d)
with_number_named place numbers d = bind _ _ (whole_named place 0 READING d) (λ n. ok)

pass_parts_named : (design : DesignParts) (place : List ℕ) (ds : List Data) → IsNotMemory (pass_parts design place ds)
unfolding pass_parts
pass_parts_named design place [] = wrong
pass_parts_named design place (d ∷ []) = wrong
pass_parts_named design place (time ∷ readings ∷ []) =
    bind _ _ (elements_named place readings)
    (λ ds. only _ _ _ wrong (bind _ _ (whole_named place 0 READING time) (λ t. only _ _ _ out
    (bind _ _ (through_named (with_number place) (with_number_named place) [] ds) (λ numbers. ok)))))
pass_parts_named design place (time ∷ readings ∷ e ∷ ds) = wrong

event_of_named : (design : DesignParts) (place : List ℕ) (word : EventWord) (ds : List Data)
    → IsNotMemory (event_of design place word ds)
unfolding event_of
event_of_named design place Pass ds = bind _ _ (pass_parts_named design place ds) (λ p. ok)
event_of_named design place Start ds = bind _ _ (node_part_named design place ds) (λ n. ok)
event_of_named design place Step ds = bind _ _ (node_part_named design place ds) (λ n. ok)
event_of_named design place Finish ds = bind _ _ (node_part_named design place ds) (λ n. ok)
event_of_named design place Send ds = bind _ _ (node_part_named design place ds) (λ n. ok)
event_of_named design place Arrive ds = bind _ _ (link_parts_named design place ds) (λ p. ok)
event_of_named design place Drop ds = bind _ _ (link_parts_named design place ds) (λ p. ok)
event_of_named design place Repeat ds = bind _ _ (link_parts_named design place ds) (λ p. ok)

usual_word_named : (command : Command) (place : List ℕ) (d : Data) → IsNotMemory (usual_word command place d)
unfolding usual_word
usual_word_named command place d =
    bind _ _ (given_named (WrongKind place) (option_and_then word_of (as_str d)) wrong) (λ word. only _ _ _ wrong ok)

event_from_named : (design : DesignParts) (command : Command) (place : List ℕ) (ds : List Data)
    → IsNotMemory (event_from design command place ds)
event_from_named design command place [] = wrong
event_from_named design command place (d ∷ ds) =
    bind _ _ (usual_word_named command place d) (λ word. event_of_named design place word ds)

event_in_named : (design : DesignParts) (command : Command) (place : List ℕ) (d : Data)
    → IsNotMemory (event_in design command place d)
unfolding event_in
event_in_named design command place d =
    bind _ _ (elements_named place d) (λ ds. event_from_named design command place ds)

with_event_named : (design : DesignParts) (command : Command) (events : List Event) (d : Data)
    → IsNotMemory (with_event design command events d)
with_event_named design command events d =
    bind _ _ (event_in_named design command (inside (codes "events") (decimal (length events))) d) (λ e. ok)

pub events_named : (design : DesignParts) (command : Command) (d : Data) → IsNotMemory (events_in design command d)
unfolding events_in
events_named design command d =
    bind _ _ (short_list_named (codes "events") LIST_ITEMS d)
    (λ ds. through_named (with_event design command) (with_event_named design command) [] ds)
