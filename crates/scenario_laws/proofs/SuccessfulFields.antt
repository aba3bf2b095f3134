-- If a scenario was read, each of its fields was read successfully: for the laws of such a scenario.
use Rattle.std.proofs.Common.{◌≡◌, inl, inr, ℕ, Bool, true, false, List, [], ◌∷◌, length, codes, Option, Some, None}
use Rattle.std.proofs.Common.{Result, Ok, Err, replicate, refl, subst}
use Rattle.std.specs.Prelude.{find, not}
use Rattle.serde_json.specs.Data.{Data}
use Rattle.serde_json.specs.Find.{get}
use Rattle.pals_base.specs.declared.basic_types.NodeNo.{NodeNo}
use Rattle.pals_base.specs.declared.basic_types.PortValue.{PortValue}
use Rattle.pals_clock.specs.declared.clock.Clocks.{Clocks}
use Rattle.pals_clock.specs.declared.clock.Clocks.TheVariants.{Meet}
use Rattle.pals_model.specs.declared.design.DesignParts.{DesignParts}
use Rattle.pals_model.specs.ComponentInputs.{root_inputs}
use Rattle.pals_runs.specs.declared.commands.Command.{Command}
use Rattle.pals_runs.specs.declared.events_and_faults.Event.{Event}
use Rattle.pals_runs.specs.declared.plant_pairs.Pair.{Pair}
use Rattle.scenario_values.specs.declared.fault.ScenarioFault.{ScenarioFault}
use Rattle.scenario_values.specs.declared.fault.ScenarioFault.TheVariants.{NotJson}
use Rattle.scenario_values.specs.ResultCombinators.{◌>>=◌}
use Rattle.scenario_values.specs.FieldValues.{entries}
use Rattle.scenario_values.proofs.SuccessfulResults.{ok_same, ok_bind}
use Rattle.scenario_json.specs.InputsAndDelays.{inputs_in, delays_in}
use Rattle.scenario_json.specs.Traces.{trace_in}
use Rattle.scenario_json.specs.Clocks.{clocks_in}
use Rattle.scenario_json.specs.Events.{events_in}
use Rattle.analysis_fields.specs.declared.replica_faults.RoundFault.{RoundFault}
use Rattle.analysis_fields.specs.declared.processors.Processor.{Processor}
use Rattle.analysis_fields.specs.Properties.{properties_in}
use Rattle.analysis_fields.specs.NamedFormulas.{PropertyValue}
use Rattle.analysis_fields.specs.ReplicasAndTheirFaults.{replicas_in, faults_in}
use Rattle.analysis_fields.specs.Plants.{plants_in}
use Rattle.analysis_fields.specs.Processors.{processors_in}
use Rattle.scenario_json.specs.declared.scenario.Scenario.{Scenario}
use Rattle.scenario_json.specs.Scenarios.{field, only_known, is_field, needs_events, needs_trace, needs_properties}
use Rattle.scenario_json.specs.Scenarios.{needs_processors, rounds_in, fields_in, scen, Means}

-- the invariant of a reader that continues with other fields
goes_on : {A : Type 0} (m : Result A ScenarioFault) (go : A → Result Scenario ScenarioFault) (s : Scenario) (P : Type 0)
    → ((a : A) → go a ≡ Ok s → P) → (m >>= go) ≡ Ok s → P
goes_on (Ok a) go s P next e = next a e
goes_on (Err fault) go s P next e = absurd (cc)

read_from : {A : Type 0} (m : Result A ScenarioFault) (go : A → Result Scenario ScenarioFault) (s : Scenario)
    (P : Type 0) → ((a : A) → m ≡ Ok a → go a ≡ Ok s → P) → (m >>= go) ≡ Ok s → P
read_from (Ok a) go s P next e = next a refl e
read_from (Err fault) go s P next e = absurd (cc)

pub field_keeps : {A : Type 0} (name : List ℕ) (needed : Bool) (otherwise : A) (read : Data → Result A ScenarioFault)
    (found : Option Data) (P : A → Type 0) → (needed ≡ false → P otherwise)
    → ((d : Data) (a : A) → read d ≡ Ok a → P a) → (a : A)
    → field name needed otherwise read found ≡ Ok a → P a
field_keeps name true otherwise read None P free keeps a e = absurd (cc)
field_keeps name false otherwise read None P free keeps a e = subst P (ok_same otherwise a e) (free refl)
field_keeps name needed otherwise read (Some d) P free keeps a e = keeps d a e

known : {A : Type 0} (unknown : Option (List ℕ × Data)) (next : Result A ScenarioFault) (a : A)
    → only_known unknown next ≡ Ok a → next ≡ Ok a
known None next a e = e
known (Some entry) next a e = absurd (cc)

-- ---- the result of reading from each field on, the last one first
abbrev made : ℕ → List (List PortValue) → List Event → Clocks → List (List ℕ) → List (List ℕ) → List PropertyValue
    → List NodeNo → List RoundFault → List Pair → List Processor → Scenario
made n i v c l t p r f pl pr = record {
  rounds = n;
  env = record { lists = i };
  events = v;
  clocks = c;
  delays = record { lists = l };
  trace = t;
  properties = p;
  replicas = r;
  faults = f;
  plants = pl;
  processors = pr;
}

module _ (d : Data) (design : DesignParts) (command : Command) where
  abbrev processors_read : Result (List Processor) ScenarioFault
  processors_read =
      field (codes "processors") (needs_processors command) [] (processors_in design) (get (codes "processors") d)

  abbrev from_processors : ℕ → List (List PortValue) → List Event → Clocks → List (List ℕ) → List (List ℕ)
      → List PropertyValue → List NodeNo → List RoundFault → List Pair → Result Scenario ScenarioFault
  from_processors n i v c l t p r f pl = processors_read >>= λ pr. Ok (made n i v c l t p r f pl pr)

  abbrev pub plants_read : Result (List Pair) ScenarioFault
  plants_read = field (codes "plants") false [] (plants_in design) (get (codes "plants") d)

  abbrev from_plants : ℕ → List (List PortValue) → List Event → Clocks → List (List ℕ) → List (List ℕ)
      → List PropertyValue → List NodeNo → List RoundFault → Result Scenario ScenarioFault
  from_plants n i v c l t p r f = plants_read >>= λ pl. from_processors n i v c l t p r f pl

  abbrev pub faults_read : List NodeNo → Result (List RoundFault) ScenarioFault
  faults_read r = field (codes "faults") false [] (faults_in design r) (get (codes "faults") d)

  abbrev from_faults : ℕ → List (List PortValue) → List Event → Clocks → List (List ℕ) → List (List ℕ)
      → List PropertyValue → List NodeNo → Result Scenario ScenarioFault
  from_faults n i v c l t p r = faults_read r >>= λ f. from_plants n i v c l t p r f

  abbrev replicas_read : Result (List NodeNo) ScenarioFault
  replicas_read = field (codes "replicas") false [] (replicas_in design) (get (codes "replicas") d)

  abbrev from_replicas : ℕ → List (List PortValue) → List Event → Clocks → List (List ℕ) → List (List ℕ)
      → List PropertyValue → Result Scenario ScenarioFault
  from_replicas n i v c l t p = replicas_read >>= λ r. from_faults n i v c l t p r

  abbrev properties_read : Result (List PropertyValue) ScenarioFault
  properties_read =
      field (codes "properties") (needs_properties command) [] (properties_in design) (get (codes "properties") d)

  abbrev from_properties : ℕ → List (List PortValue) → List Event → Clocks → List (List ℕ) → List (List ℕ)
      → Result Scenario ScenarioFault
  from_properties n i v c l t = properties_read >>= λ p. from_replicas n i v c l t p

  abbrev pub trace_read : Result (List (List ℕ)) ScenarioFault
  trace_read = field (codes "trace") (needs_trace command) [] trace_in (get (codes "trace") d)

  abbrev from_trace : ℕ → List (List PortValue) → List Event → Clocks → List (List ℕ) → Result Scenario ScenarioFault
  from_trace n i v c l = trace_read >>= λ t. from_properties n i v c l t

  abbrev delays_read : Result (List (List ℕ)) ScenarioFault
  delays_read =
      field (codes "delays") false (replicate (length design.links) (design.gamma.mu_min ∷ [])) (delays_in design)
      (get (codes "delays") d)

  abbrev from_delays : ℕ → List (List PortValue) → List Event → Clocks → Result Scenario ScenarioFault
  from_delays n i v c = delays_read >>= λ l. from_trace n i v c l

  abbrev clocks_read : Result Clocks ScenarioFault
  clocks_read = field (codes "clocks") false Meet (clocks_in design) (get (codes "clocks") d)

  abbrev from_clocks : ℕ → List (List PortValue) → List Event → Result Scenario ScenarioFault
  from_clocks n i v = clocks_read >>= λ c. from_delays n i v c

  abbrev pub events_read : Result (List Event) ScenarioFault
  events_read = field (codes "events") (needs_events command) [] (events_in design command) (get (codes "events") d)

  abbrev from_events : ℕ → List (List PortValue) → Result Scenario ScenarioFault
  from_events n i = events_read >>= λ v. from_clocks n i v

  abbrev inputs_read : Result (List (List PortValue)) ScenarioFault
  inputs_read =
      field (codes "inputs") false (replicate (length (root_inputs design)) []) (inputs_in design)
      (get (codes "inputs") d)

  abbrev from_inputs : ℕ → Result Scenario ScenarioFault
  from_inputs n = inputs_read >>= λ i. from_events n i

  abbrev from_rounds : Result Scenario ScenarioFault
  from_rounds = rounds_in design d >>= λ n. from_inputs n

  -- the result of reading these fields is the scenario's
  pub record AreRead (s : Scenario) : Type 0 where
    pub events : events_read ≡ Ok s.events
    pub trace : trace_read ≡ Ok s.trace
    pub faults : faults_read s.replicas ≡ Ok s.faults
    pub plants : plants_read ≡ Ok s.plants

  fields_are_read : (s : Scenario) → fields_in d design command ≡ Ok s → AreRead s
  unfolding fields_in
  fields_are_read s e =
      let Q : Type 0 = AreRead s in
      goes_on (rounds_in design d) (λ n. from_inputs n) s Q (λ n e0.
      goes_on inputs_read (λ i. from_events n i) s Q (λ i e1.
      read_from events_read (λ v. from_clocks n i v) s Q (λ v is_events e2.
      goes_on clocks_read (λ c. from_delays n i v c) s Q (λ c e3.
      goes_on delays_read (λ l. from_trace n i v c l) s Q (λ l e4.
      read_from trace_read (λ t. from_properties n i v c l t) s Q (λ t is_trace e5.
      goes_on properties_read (λ p. from_replicas n i v c l t p) s Q (λ p e6.
      goes_on replicas_read (λ r. from_faults n i v c l t p r) s Q (λ r e7.
      read_from (faults_read r) (λ f. from_plants n i v c l t p r f) s Q (λ f is_faults e8.
      read_from plants_read (λ pl. from_processors n i v c l t p r f pl) s Q (λ pl is_plants e9.
      goes_on processors_read (λ pr. Ok (made n i v c l t p r f pl pr)) s Q (λ pr e10.
      subst AreRead (ok_same (made n i v c l t p r f pl pr) s e10)
      (record { events = is_events; trace = is_trace; faults = is_faults; plants = is_plants })
      ) e9) e8) e7) e6) e5) e4) e3) e2) e1) e0) e

  pub fields_of_scenario : (s : Scenario) → scen d design command ≡ Ok s → fields_in d design command ≡ Ok s
  unfolding scen
  fields_of_scenario s e =
      let es =
      ok_bind (entries (codes "scenario") d)
      (λ es. only_known (find (λ x. not (is_field x.0)) es) (fields_in d design command)) s e in
      known (find (λ x. not (is_field x.0)) es.0) (fields_in d design command) s es.2

-- ---- what the bytes of a scenario mean
abbrev read_well : Scenario → Result Scenario ScenarioFault
read_well s = Ok s

wrong : {P : Type 0} (s : Scenario) → read_well s ≡ Err NotJson → P
wrong s e = absurd (cc)

pub means_fields : (bytes : List ℕ) (design : DesignParts) (command : Command) (s : Scenario)
    → Means bytes design command (Ok s)
    → (d : Data) × (fields_in d design command ≡ Ok s)
means_fields bytes design command s (inl value) = (value.0, fields_of_scenario value.0 design command s value.2)
means_fields bytes design command s (inr none) = wrong s none.1

pub means_read : (bytes : List ℕ) (design : DesignParts) (command : Command) (s : Scenario)
    → Means bytes design command (Ok s)
    → (d : Data) × AreRead d design command s
means_read bytes design command s means =
    let fields = means_fields bytes design command s means in
    (fields.0, fields_are_read fields.0 design command s fields.1)
