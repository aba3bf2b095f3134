-- For the law that Booleans of a scenario's runs are 0 or 1: every value that a scenario gives has its type.
use Rattle.std.proofs.Common.{◌≡◌, inl, inr, ℕ, List, All, codes, Option, Some, None, Result, Ok, subst}
use Rattle.std.specs.Prelude.{find, not}
use Rattle.serde_json.specs.Data.{Data}
use Rattle.serde_json.specs.Find.{get}
use Rattle.pals_base.specs.declared.basic_types.NodeNo.{NodeNo}
use Rattle.pals_base.specs.declared.basic_types.PortValue.{PortValue}
use Rattle.pals_model.specs.declared.design.DesignParts.{DesignParts}
use Rattle.pals_clock.specs.declared.clock.Clocks.{Clocks}
use Rattle.pals_runs.specs.declared.commands.Command.{Command}
use Rattle.pals_runs.specs.declared.events_and_faults.Event.{Event}
use Rattle.pals_runs.specs.declared.plant_pairs.Pair.{Pair}
use Rattle.analysis_fields.specs.declared.replica_faults.RoundFault.{RoundFault}
use Rattle.analysis_fields.specs.declared.processors.Processor.{Processor}
use Rattle.analysis_fields.specs.NamedFormulas.{PropertyValue}
use Rattle.scenario_values.specs.declared.fault.ScenarioFault.{ScenarioFault}
use Rattle.scenario_values.specs.ResultCombinators.{◌>>=◌}
use Rattle.scenario_values.specs.FieldValues.{entries}
use Rattle.scenario_values.proofs.SuccessfulResults.{ok_same, ok_bind}
use Rattle.scenario_json.specs.declared.scenario.Scenario.{Scenario}
use Rattle.scenario_json.specs.Scenarios.{is_field, only_known, rounds_in, inputs_field, events_field, clocks_field}
use Rattle.scenario_json.specs.Scenarios.{delays_field, trace_field, properties_field, replicas_field, faults_field}
use Rattle.scenario_json.specs.Scenarios.{plants_field, processors_field, fields_in, scen, Means}
use Rattle.answer_laws.proofs.InputValueKinds.{ListsFit, inputs_field_fit}
use Rattle.answer_laws.proofs.ReplicaFaultValueKinds.{RoundFaultFits, faults_field_fit}

-- the values of the scenario's inputs and of its faults
pub record ValuesFit (design : DesignParts) (scenario : Scenario) : Type 0 where
  pub inputs : ListsFit design scenario.env.lists
  pub faults : All (RoundFaultFits design) scenario.faults

-- ---- the scenario
-- where a scenario is read, it keeps this
record Keeps (r : Result Scenario ScenarioFault) (Q : Scenario → Type 0) : Type 0 where
  kept : (s : Scenario) → r ≡ Ok s → Q s

then_keeps : {A : Type 0} (m : Result A ScenarioFault) (go : A → Result Scenario ScenarioFault) (Q : Scenario → Type 0)
    → ((a : A) → m ≡ Ok a → Keeps (go a) Q) → Keeps (m >>= go) Q
then_keeps m go Q each = record { kept = λ s e. let a = ok_bind m go s e in (each a.0 a.1).kept s a.2 }

made_keeps : (made : Scenario) (Q : Scenario → Type 0) → Q made → Keeps (Ok made) Q
made_keeps made Q holds = record { kept = λ s e. subst Q (ok_same made s e) holds }

-- the result of reading from each field on, the last one first
abbrev made : ℕ → List (List PortValue) → List Event → Clocks → List (List ℕ) → List (List ℕ) → List PropertyValue
    → List NodeNo → List RoundFault → List Pair → List Processor → Scenario
made n i v c l t p r f pl pr =
    record {
      rounds = n;
      env = record { lists = i };
      events = v;
      clocks = c;
      delays = record { lists = l };
      trace = t;
      properties = p;
      replicas = r;
      faults = f;
      plants = pl;
      processors = pr;
    }

module _ (d : Data) (design : DesignParts) (command : Command) where
  abbrev from_processors : ℕ → List (List PortValue) → List Event → Clocks → List (List ℕ) → List (List ℕ)
      → List PropertyValue → List NodeNo → List RoundFault → List Pair → Result Scenario ScenarioFault
  from_processors n i v c l t p r f pl = processors_field design command d >>= λ pr. Ok (made n i v c l t p r f pl pr)

  abbrev from_plants : ℕ → List (List PortValue) → List Event → Clocks → List (List ℕ) → List (List ℕ)
      → List PropertyValue
      → List NodeNo → List RoundFault → Result Scenario ScenarioFault
  from_plants n i v c l t p r f = plants_field design d >>= λ pl. from_processors n i v c l t p r f pl

  abbrev from_faults : ℕ → List (List PortValue) → List Event → Clocks → List (List ℕ) → List (List ℕ)
      → List PropertyValue
      → List NodeNo → Result Scenario ScenarioFault
  from_faults n i v c l t p r = faults_field design r d >>= λ f. from_plants n i v c l t p r f

  abbrev from_replicas : ℕ → List (List PortValue) → List Event → Clocks → List (List ℕ) → List (List ℕ)
      → List PropertyValue
      → Result Scenario ScenarioFault
  from_replicas n i v c l t p = replicas_field design d >>= λ r. from_faults n i v c l t p r

  abbrev from_properties : ℕ → List (List PortValue) → List Event → Clocks → List (List ℕ) → List (List ℕ)
      → Result Scenario ScenarioFault
  from_properties n i v c l t = properties_field design command d >>= λ p. from_replicas n i v c l t p

  abbrev from_trace : ℕ → List (List PortValue) → List Event → Clocks → List (List ℕ) → Result Scenario ScenarioFault
  from_trace n i v c l = trace_field command d >>= λ t. from_properties n i v c l t

  abbrev from_delays : ℕ → List (List PortValue) → List Event → Clocks → Result Scenario ScenarioFault
  from_delays n i v c = delays_field design d >>= λ l. from_trace n i v c l

  abbrev from_clocks : ℕ → List (List PortValue) → List Event → Result Scenario ScenarioFault
  from_clocks n i v = clocks_field design d >>= λ c. from_delays n i v c

  abbrev from_events : ℕ → List (List PortValue) → Result Scenario ScenarioFault
  from_events n i = events_field design command d >>= λ v. from_clocks n i v

  abbrev from_inputs : ℕ → Result Scenario ScenarioFault
  from_inputs n = inputs_field design d >>= λ i. from_events n i

  abbrev from_rounds : Result Scenario ScenarioFault
  from_rounds = rounds_in design d >>= λ n. from_inputs n

  fields_fit : Keeps (fields_in d design command) (ValuesFit design)
  unfolding fields_in
  fields_fit =
      let Q : Scenario → Type 0 = ValuesFit design in
      then_keeps (rounds_in design d) (λ n. from_inputs n) Q (λ n x0.
      then_keeps (inputs_field design d) (λ i. from_events n i) Q (λ i x1.
      then_keeps (events_field design command d) (λ v. from_clocks n i v) Q (λ v x2.
      then_keeps (clocks_field design d) (λ c. from_delays n i v c) Q (λ c x3.
      then_keeps (delays_field design d) (λ l. from_trace n i v c l) Q (λ l x4.
      then_keeps (trace_field command d) (λ t. from_properties n i v c l t) Q (λ t x5.
      then_keeps (properties_field design command d) (λ p. from_replicas n i v c l t p) Q (λ p x6.
      then_keeps (replicas_field design d) (λ r. from_faults n i v c l t p r) Q (λ r x7.
      then_keeps (faults_field design r d) (λ f. from_plants n i v c l t p r f) Q (λ f x8.
      then_keeps (plants_field design d) (λ pl. from_processors n i v c l t p r f pl) Q (λ pl x9.
      then_keeps (processors_field design command d) (λ pr. Ok (made n i v c l t p r f pl pr)) Q (λ pr x10.
      made_keeps (made n i v c l t p r f pl pr) Q
      record {
        inputs = inputs_field_fit design (get (codes "inputs") d) i x1;
        faults = faults_field_fit design r (get (codes "faults") d) f x8;
      })))))))))))

known_keeps : (o : Option (List ℕ × Data)) (next : Result Scenario ScenarioFault) (Q : Scenario → Type 0) → Keeps next Q
    → Keeps (only_known o next) Q
known_keeps None next Q keeps = keeps
known_keeps (Some entry) next Q keeps = record { kept = λ s e. absurd (cc) }

scenario_fits : (d : Data) (design : DesignParts) (command : Command)
    → Keeps (scen d design command) (ValuesFit design)
unfolding scen
scenario_fits d design command =
    then_keeps (entries (codes "scenario") d)
    (λ es. only_known (find (λ e. not (is_field e.0)) es) (fields_in d design command)) (ValuesFit design)
    (λ es x. known_keeps (find (λ e. not (is_field e.0)) es) (fields_in d design command) (ValuesFit design)
    (fields_fit d design command))

pub meant_by : (bytes : List ℕ) (design : DesignParts) (command : Command) (scenario : Scenario)
    → Means bytes design command (Ok scenario) → ValuesFit design scenario
meant_by bytes design command scenario (inl read) = (scenario_fits read.0 design command).kept scenario read.2
meant_by bytes design command scenario (inr none) = absurd (let no = none.1 in cc)
