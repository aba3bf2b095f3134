-- The meaning of a scenario, or its first fault.
use Rattle.std.specs.Prelude.{◌≡◌, ◌≢◌, ◌⊎◌, IsUtf8, MatchResult, ℕ, ◌^◌, ◌-◌, min, nat_le, bytes_eq, codes, List, []}
use Rattle.std.specs.Prelude.{◌∷◌, length, find, replicate, Bool, true, false, not, Option, Some, None, Result, Ok, Err}
use Rattle.std.specs.Prelude.{if◌then◌else◌}
use Rattle.std.specs.List.{list_any}
use Rattle.serde_json.specs.Data.{Data}
use Rattle.serde_json.specs.Find.{get}
use Rattle.serde_json.specs.Read.{read}
use Rattle.pals_base.specs.declared.limits.TheConstants.{ROUNDS, CELLS}
use Rattle.pals_base.specs.declared.basic_types.NodeNo.{NodeNo}
use Rattle.pals_base.specs.declared.basic_types.PortValue.{PortValue}
use Rattle.pals_clock.specs.declared.clock.Clocks.{Clocks}
use Rattle.pals_clock.specs.declared.clock.Clocks.TheVariants.{Meet}
use Rattle.pals_model.specs.declared.design.DesignParts.{DesignParts}
use Rattle.pals_model.specs.ComponentInputs.{root_inputs}
use Rattle.pals_runs.specs.declared.commands.Command.{Command}
use Rattle.pals_runs.specs.declared.commands.Command.TheVariants.{World, Audit, Watch, Budget}
use Rattle.pals_runs.specs.declared.events_and_faults.Event.{Event}
use Rattle.pals_runs.specs.declared.plant_pairs.Pair.{Pair}
use Rattle.scenario_values.specs.declared.fault.ScenarioFault.{ScenarioFault}
use Rattle.scenario_values.specs.declared.fault.ScenarioFault.TheVariants.{NotJson, Field, Unknown, TooBig, Memory}
use Rattle.scenario_json.specs.declared.scenario.Scenario.{Scenario}
use Rattle.scenario_values.specs.ResultCombinators.{◌>>=◌, only_if}
use Rattle.scenario_values.specs.FieldValues.{entries, whole}
use Rattle.scenario_json.specs.RunCellCount.{cells_of}
use Rattle.scenario_json.specs.InputsAndDelays.{inputs_in, delays_in}
use Rattle.scenario_json.specs.Traces.{trace_in}
use Rattle.scenario_json.specs.Clocks.{clocks_in}
use Rattle.scenario_json.specs.Events.{events_in}
use Rattle.analysis_fields.specs.declared.replica_faults.RoundFault.{RoundFault}
use Rattle.analysis_fields.specs.declared.processors.Processor.{Processor}
use Rattle.analysis_fields.specs.NamedFormulas.{PropertyValue}
use Rattle.analysis_fields.specs.Properties.{properties_in}
use Rattle.analysis_fields.specs.ReplicasAndTheirFaults.{replicas_in, faults_in}
use Rattle.analysis_fields.specs.Plants.{plants_in}
use Rattle.analysis_fields.specs.Processors.{processors_in}

-- ---- fields
abbrev pub fields : List (List ℕ)
fields =
    codes "rounds" ∷ codes "inputs" ∷ codes "events" ∷ codes "clocks" ∷ codes "delays" ∷ codes "trace"
    ∷ codes "properties"
    ∷ codes "replicas" ∷ codes "faults" ∷ codes "plants" ∷ codes "processors" ∷ []

abbrev pub is_field : List ℕ → Bool
is_field name = list_any (bytes_eq name) fields

-- the first unknown field, in byte order
abbrev pub only_known : {A : Type 0} → Option (List ℕ × Data) → Result A ScenarioFault → Result A ScenarioFault
only_known None next = next
only_known (Some entry) next = Err (Unknown entry.0)

-- a field, or its default if it is absent; a command may require the field
abbrev pub field : {A : Type 0} → List ℕ → Bool → A → (Data → Result A ScenarioFault) → Option Data
    → Result A ScenarioFault
field name needed otherwise read None = if needed then Err (Field name) else Ok otherwise
field name needed otherwise read (Some d) = read d

abbrev pub needs_events : Command → Bool
needs_events (World root loose) = true
needs_events command = false

abbrev pub needs_trace : Command → Bool
needs_trace (Audit root) = true
needs_trace command = false

abbrev pub needs_properties : Command → Bool
needs_properties (Watch root) = true
needs_properties command = false

abbrev pub needs_processors : Command → Bool
needs_processors (Budget root) = true
needs_processors command = false

-- ---- the number of rounds
-- the number of output values is within the limit; a fault has their number, or the maximum 64-bit number if that is
-- smaller
abbrev pub small_enough : {A : Type 0} → ℕ → Result A ScenarioFault → Result A ScenarioFault
small_enough cells next = only_if (nat_le cells CELLS) (TooBig (min cells (2 ^ 64 - 1))) next

unfoldable pub rounds_in : DesignParts → Data → Result ℕ ScenarioFault
rounds_in design d =
    field (codes "rounds") true 0 (whole (codes "rounds") 1 ROUNDS) (get (codes "rounds") d) >>= λ rounds.
    small_enough (cells_of design rounds) (Ok rounds)

-- ---- the other fields, each by its name
-- without the field, each root in port has an empty list
abbrev pub inputs_field : DesignParts → Data → Result (List (List PortValue)) ScenarioFault
inputs_field design d =
    field (codes "inputs") false (replicate (length (root_inputs design)) []) (inputs_in design)
    (get (codes "inputs") d)

abbrev pub events_field : DesignParts → Command → Data → Result (List Event) ScenarioFault
events_field design command d =
    field (codes "events") (needs_events command) [] (events_in design command) (get (codes "events") d)

-- without the field, the nodes follow the virtual-time schedule
abbrev pub clocks_field : DesignParts → Data → Result Clocks ScenarioFault
clocks_field design d = field (codes "clocks") false Meet (clocks_in design) (get (codes "clocks") d)

-- without the field, each link has the minimum delay
abbrev pub delays_field : DesignParts → Data → Result (List (List ℕ)) ScenarioFault
delays_field design d =
    field (codes "delays") false (replicate (length design.links) (design.gamma.mu_min ∷ [])) (delays_in design)
    (get (codes "delays") d)

abbrev pub trace_field : Command → Data → Result (List (List ℕ)) ScenarioFault
trace_field command d = field (codes "trace") (needs_trace command) [] trace_in (get (codes "trace") d)

abbrev pub properties_field : DesignParts → Command → Data → Result (List PropertyValue) ScenarioFault
properties_field design command d =
    field (codes "properties") (needs_properties command) [] (properties_in design) (get (codes "properties") d)

abbrev pub replicas_field : DesignParts → Data → Result (List NodeNo) ScenarioFault
replicas_field design d = field (codes "replicas") false [] (replicas_in design) (get (codes "replicas") d)

abbrev pub faults_field : DesignParts → List NodeNo → Data → Result (List RoundFault) ScenarioFault
faults_field design replicas d = field (codes "faults") false [] (faults_in design replicas) (get (codes "faults") d)

abbrev pub plants_field : DesignParts → Data → Result (List Pair) ScenarioFault
plants_field design d = field (codes "plants") false [] (plants_in design) (get (codes "plants") d)

abbrev pub processors_field : DesignParts → Command → Data → Result (List Processor) ScenarioFault
processors_field design command d =
    field (codes "processors") (needs_processors command) [] (processors_in design) (get (codes "processors") d)

-- ---- the whole
unfoldable pub fields_in : Data → DesignParts → Command → Result Scenario ScenarioFault
fields_in d design command =
    rounds_in design d >>= λ rounds.
    inputs_field design d >>= λ inputs.
    events_field design command d >>= λ events.
    clocks_field design d >>= λ clocks.
    delays_field design d >>= λ delays.
    trace_field command d >>= λ trace.
    properties_field design command d >>= λ properties.
    replicas_field design d >>= λ replicas.
    faults_field design replicas d >>= λ faults.
    plants_field design d >>= λ plants.
    processors_field design command d >>= λ processors.
    Ok (record {
      rounds = rounds;
      env = record { lists = inputs };
      events = events;
      clocks = clocks;
      delays = record { lists = delays };
      trace = trace;
      properties = properties;
      replicas = replicas;
      faults = faults;
      plants = plants;
      processors = processors;
    })

unfoldable pub scen : Data → DesignParts → Command → Result Scenario ScenarioFault
scen d design command =
    entries (codes "scenario") d >>= λ es. only_known (find (λ e. not (is_field e.0)) es) (fields_in d design command)

-- ---- bytes
-- the bytes encode this JSON value
abbrev pub IsValue : List ℕ → Data → Type 0
IsValue bytes d = IsUtf8 bytes × (read bytes ≡ Some d)

-- the meaning of bytes: the meaning of their value, or the fault that they are not JSON
abbrev pub Means : List ℕ → DesignParts → Command → Result Scenario ScenarioFault → Type 0
Means bytes design command meant =
    ((d : Data) × IsValue bytes d × (scen d design command ≡ meant))
    ⊎ (((d : Data) → IsValue bytes d → ⊥) × (meant ≡ Err NotJson))

-- the result is the meaning of the bytes, unless memory ran out
abbrev pub IsAnswer : List ℕ → DesignParts → Command → Result Scenario ScenarioFault → Type 0
IsAnswer bytes design command answer =
    MatchResult answer (λ s. Means bytes design command (Ok s))
    (λ fault. fault ≢ Memory → Means bytes design command (Err fault))
