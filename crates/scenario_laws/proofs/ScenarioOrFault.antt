-- Bytes mean a scenario or have a first fault.
use Rattle.std.proofs.Common.{◌≡◌, ◌⊎◌, inl, inr, ℕ, Bool, true, false, List, Option, Some, None, refl}
use Rattle.std.specs.Prelude.{codes, Ok, Err, Result}
use Rattle.std.specs.Str.{IsUtf8, is_utf8}
use Rattle.std.proofs.lemmas.Str.{IsUtf8-from_is_utf8, is_utf8-from_IsUtf8}
use Rattle.serde_json.specs.Data.{Data}
use Rattle.serde_json.specs.Find.{get}
use Rattle.serde_json.specs.Read.{read}
use Rattle.pals_base.specs.declared.limits.TheConstants.{ROUNDS}
use Rattle.pals_model.specs.declared.design.DesignParts.{DesignParts}
use Rattle.pals_runs.specs.declared.commands.Command.{Command}
use Rattle.scenario_values.specs.declared.fault.ScenarioFault.{ScenarioFault}
use Rattle.scenario_values.specs.declared.fault.ScenarioFault.TheVariants.{NotJson}
use Rattle.scenario_values.specs.FieldValues.{whole}
use Rattle.scenario_json.specs.InputsAndDelays.{inputs_in, delays_in}
use Rattle.scenario_json.specs.Traces.{trace_in}
use Rattle.scenario_json.specs.Clocks.{clocks_in}
use Rattle.scenario_json.specs.Events.{events_in}
use Rattle.analysis_fields.specs.Properties.{properties_in}
use Rattle.analysis_fields.specs.ReplicasAndTheirFaults.{replicas_in, faults_in}
use Rattle.analysis_fields.specs.Plants.{plants_in}
use Rattle.analysis_fields.specs.Processors.{processors_in}
use Rattle.scenario_json.specs.declared.scenario.Scenario.{Scenario}
use Rattle.scenario_json.specs.Scenarios.{only_known, field, needs_events, needs_trace, needs_properties}
use Rattle.scenario_json.specs.Scenarios.{needs_processors, rounds_in, fields_in, scen}
use Rattle.scenario_laws.specs.proof.ScenarioOrFault.{HasScenario, HasFault}
use Rattle.scenario_laws.proofs.OutcomesWithoutMemoryFault.{IsNotMemory, ok, strange, lacking, big, bind, only}
use Rattle.scenario_laws.proofs.ValueFaultsExceptMemory.{entries_named, whole_named}
use Rattle.scenario_laws.proofs.RunFaultsExceptMemory.{inputs_named, delays_named, trace_named, clocks_named}
use Rattle.scenario_laws.proofs.RunFaultsExceptMemory.{events_named}
use Rattle.scenario_laws.proofs.AnalysisFaultsExceptMemory.{properties_named, replicas_named, faults_named}
use Rattle.scenario_laws.proofs.AnalysisFaultsExceptMemory.{plants_named}
use Rattle.scenario_laws.proofs.AnalysisFaultsExceptMemory.{processors_named}

by_need : {A : Type 0} (name : List ℕ) (needed : Bool) (otherwise : A) (read : Data → Result A ScenarioFault)
    → IsNotMemory (field name needed otherwise read None)
by_need name true otherwise read = lacking
by_need name false otherwise read = ok

field_named : {A : Type 0} (name : List ℕ) (needed : Bool) (otherwise : A) (read : Data → Result A ScenarioFault)
    → ((d : Data) → IsNotMemory (read d))
    → (o : Option Data) → IsNotMemory (field name needed otherwise read o)
field_named name needed otherwise read n None = by_need name needed otherwise read
field_named name needed otherwise read n (Some d) = n d

rounds_named : (design : DesignParts) (d : Data) → IsNotMemory (rounds_in design d)
unfolding rounds_in
rounds_named design d =
    bind _ _ (field_named (codes "rounds") true 0 (whole (codes "rounds") 1 ROUNDS)
    (whole_named (codes "rounds") 1 ROUNDS) (get (codes "rounds") d))
    (λ rounds. only _ _ _ big ok)

fields_named : (d : Data) (design : DesignParts) (command : Command) → IsNotMemory (fields_in d design command)
unfolding fields_in
fields_named d design command =
    bind _ _ (rounds_named design d) (λ rounds.
    bind _ _ (field_named (codes "inputs") false _ (inputs_in design) (inputs_named design)
    (get (codes "inputs") d)) (λ inputs.
    bind _ _ (field_named (codes "events") (needs_events command) _ (events_in design command)
    (events_named design command) (get (codes "events") d)) (λ events.
    bind _ _ (field_named (codes "clocks") false _ (clocks_in design) (clocks_named design)
    (get (codes "clocks") d)) (λ clocks.
    bind _ _ (field_named (codes "delays") false _ (delays_in design) (delays_named design)
    (get (codes "delays") d)) (λ delays.
    bind _ _ (field_named (codes "trace") (needs_trace command) _ trace_in trace_named
    (get (codes "trace") d)) (λ trace.
    bind _ _ (field_named (codes "properties") (needs_properties command) _ (properties_in design)
    (properties_named design) (get (codes "properties") d)) (λ properties.
    bind _ _ (field_named (codes "replicas") false _ (replicas_in design) (replicas_named design)
    (get (codes "replicas") d)) (λ replicas.
    bind _ _ (field_named (codes "faults") false _ (faults_in design replicas) (faults_named design replicas)
    (get (codes "faults") d)) (λ faults.
    bind _ _ (field_named (codes "plants") false _ (plants_in design) (plants_named design)
    (get (codes "plants") d)) (λ plants.
    bind _ _ (field_named (codes "processors") (needs_processors command) _ (processors_in design)
    (processors_named design) (get (codes "processors") d)) (λ processors.
    ok)))))))))))

known_named : {A : Type 0} (o : Option (List ℕ × Data)) (next : Result A ScenarioFault) → IsNotMemory next
    → IsNotMemory (only_known o next)
known_named None next n = n
known_named (Some entry) next n = strange

scen_named : (d : Data) (design : DesignParts) (command : Command) → IsNotMemory (scen d design command)
unfolding scen
scen_named d design command =
    bind _ _ (entries_named (codes "scenario") d)
    (λ es. known_named _ (fields_in d design command) (fields_named d design command))

-- ---- bytes
by_meaning : (bytes : List ℕ) (design : DesignParts) (command : Command) (d : Data) → IsUtf8 bytes → read bytes ≡ Some d
    → (r : Result Scenario ScenarioFault) → scen d design command ≡ r → IsNotMemory r
    → HasScenario bytes design command ⊎ HasFault bytes design command
by_meaning bytes design command d utf8 value (Ok s) e n = inl (s, inl (d, (utf8, value), e))
by_meaning bytes design command d utf8 value (Err fault) e n =
    inr (fault, n.named fault refl, inl (d, (utf8, value), e))

no_value : (bytes : List ℕ) (design : DesignParts) (command : Command)
    → ((d : Data) → IsUtf8 bytes × (read bytes ≡ Some d) → ⊥)
    → HasScenario bytes design command ⊎ HasFault bytes design command
no_value bytes design command none = inr (NotJson, (λ e. absurd cc), inr (none, refl))

by_value : (bytes : List ℕ) (design : DesignParts) (command : Command) → IsUtf8 bytes → (o : Option Data)
    → read bytes ≡ o → HasScenario bytes design command ⊎ HasFault bytes design command
by_value bytes design command utf8 None e = no_value bytes design command (λ d h. let f = h.1 in absurd cc)
by_value bytes design command utf8 (Some d) e =
    by_meaning bytes design command d utf8 e (scen d design command) refl (scen_named d design command)

by_utf8 : (bytes : List ℕ) (design : DesignParts) (command : Command) (b : Bool) → is_utf8 bytes ≡ b
    → HasScenario bytes design command ⊎ HasFault bytes design command
by_utf8 bytes design command true e = by_value bytes design command (IsUtf8-from_is_utf8 bytes e) (read bytes) refl
by_utf8 bytes design command false e =
    no_value bytes design command (λ d h. let t = is_utf8-from_IsUtf8 bytes h.0 in absurd cc)

pub scenario_or_fault : (bytes : List ℕ) (design : DesignParts) (command : Command)
    → HasScenario bytes design command ⊎ HasFault bytes design command
scenario_or_fault bytes design command = by_utf8 bytes design command (is_utf8 bytes) refl
