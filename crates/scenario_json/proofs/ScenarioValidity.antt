-- A parsed scenario satisfies the invariants of its fields.
use Rattle.std.proofs.Common.{◌≡◌, ℕ, ◌≤◌, Bool, true, false, List, [], ◌∷◌, length, codes, Option, Some, None, Result}
use Rattle.std.proofs.Common.{Ok, Err, All, IfOk, replicate, subst, refl, sym, ap, ◌∙◌, arith}
use Rattle.std.specs.Prelude.{nat_le, min, ◌^◌, ◌-◌}
use Rattle.std.proofs.lemmas.Bool.{leb-true}
use Rattle.std.proofs.lemmas.List.Elements.{All-nil}
use Rattle.serde_json.specs.Data.{Data}
use Rattle.serde_json.specs.Find.{get}
use Rattle.pals_base.specs.declared.limits.TheConstants.{ROUNDS, CELLS, HOUR}
use Rattle.pals_base.specs.declared.basic_types.NodeNo.{NodeNo}
use Rattle.pals_base.specs.declared.basic_types.PortValue.{PortValue}
use Rattle.pals_clock.specs.declared.clock.Clocks.{Clocks}
use Rattle.pals_clock.specs.declared.clock.Clocks.TheVariants.{Meet}
use Rattle.pals_model.specs.declared.design.DesignParts.{DesignParts}
use Rattle.pals_model.specs.ComponentInputs.{root_inputs}
use Rattle.pals_model.specs.DesignRules.{IsDesign}
use Rattle.pals_runs.specs.declared.commands.Command.{Command}
use Rattle.pals_runs.specs.declared.events_and_faults.Event.{Event}
use Rattle.pals_runs.specs.declared.plant_pairs.Pair.{Pair}
use Rattle.scenario_values.specs.declared.fault.ScenarioFault.{ScenarioFault}
use Rattle.scenario_values.specs.declared.fault.ScenarioFault.TheVariants.{TooBig}
use Rattle.scenario_values.specs.ResultCombinators.{◌>>=◌, Answers}
use Rattle.scenario_values.specs.FieldValues.{whole}
use Rattle.scenario_values.proofs.SuccessfulResults.{read_as, ok_same, ok_bind, ok_only_if, whole_within}
use Rattle.scenario_json.specs.RunCellCount.{cells_of}
use Rattle.scenario_json.specs.InputsAndDelays.{inputs_in, delays_in}
use Rattle.scenario_json.specs.Clocks.{clocks_in}
use Rattle.scenario_json.specs.proof.InputsDelaysAndClocks.{AreInputsOf, AreDelaysOf, AreClocksFor}
use Rattle.scenario_json.proofs.InputsDelaysAndClocks.{no_inputs_keep, inputs_keep, least_delays_keep, delays_keep}
use Rattle.scenario_json.proofs.InputsDelaysAndClocks.{clocks_keep}
use Rattle.analysis_fields.specs.proof.ReplicaFaultsAndProcessors.{IsFaultOf, IsProcessorOf}
use Rattle.analysis_fields.specs.declared.replica_faults.RoundFault.{RoundFault}
use Rattle.analysis_fields.specs.declared.processors.Processor.{Processor}
use Rattle.analysis_fields.specs.NamedFormulas.{PropertyValue}
use Rattle.analysis_fields.specs.ReplicasAndTheirFaults.{faults_in}
use Rattle.analysis_fields.specs.Processors.{processors_in}
use Rattle.analysis_fields.proofs.ReplicaFaultValidity.{faults_keep}
use Rattle.analysis_fields.proofs.ProcessorValidity.{processors_are_valid}
use Rattle.scenario_json.specs.declared.scenario.Scenario.{Scenario}
use Rattle.scenario_json.specs.proof.ScenarioValidity.{IsScenarioOf}
use Rattle.scenario_json.specs.Scenarios.{field, small_enough, needs_processors, rounds_in, inputs_field, events_field}
use Rattle.scenario_json.specs.Scenarios.{clocks_field, delays_field, trace_field, properties_field, replicas_field}
use Rattle.scenario_json.specs.Scenarios.{faults_field, plants_field, processors_field, fields_in}

-- a present field satisfies the invariant of its parser, and the default of an absent field satisfies it too
field_keeps : {A : Type 0} (P : A → Type 0) (name : List ℕ) (needed : Bool) (otherwise : A)
    (read : Data → Result A ScenarioFault) (found : Option Data) (a : A) → P otherwise
    → ((d : Data) → read d ≡ Ok a → P a) → field name needed otherwise read found ≡ Ok a → P a
field_keeps P name true otherwise read None a base keeps e = absurd (cc)
field_keeps P name false otherwise read None a base keeps e = subst P (ok_same otherwise a e) base
field_keeps P name needed otherwise read (Some d) a base keeps e = keeps d e

-- ---- rounds
record AreRounds (design : DesignParts) (rounds : ℕ) : Type 0 where
  long : (1 ≤ rounds) × (rounds ≤ ROUNDS)
  small : cells_of design rounds ≤ CELLS

needed_rounds : (found : Option Data) (n : ℕ)
    → field (codes "rounds") true 0 (whole (codes "rounds") 1 ROUNDS) found ≡ Ok n → (1 ≤ n) × (n ≤ ROUNDS)
needed_rounds None n e = absurd (cc)
needed_rounds (Some d) n e = whole_within (codes "rounds") 1 ROUNDS d n e

rounds_keep : (design : DesignParts) (d : Data) (n : ℕ) → rounds_in design d ≡ Ok n → AreRounds design n
unfolding rounds_in
rounds_keep design d n e =
    let read =
    ok_bind (field (codes "rounds") true 0 (whole (codes "rounds") 1 ROUNDS) (get (codes "rounds") d))
    (λ rounds. small_enough (cells_of design rounds) (Ok rounds)) n e in
    let passed =
    ok_only_if (nat_le (cells_of design read.0) CELLS) (TooBig (min (cells_of design read.0) (2 ^ 64 - 1)))
    (Ok read.0) n read.2 in
    subst (AreRounds design) (ok_same read.0 n passed.1) (record {
      long = needed_rounds (get (codes "rounds") d) read.0 read.1;
      small = leb-true _ _ passed.0;
    })

-- ---- the whole, from each field on
by_bind : {A B : Type 0} (m : Result A ScenarioFault) (go : A → Result B ScenarioFault) (b : B) (Q : Type 0)
    → (m >>= go) ≡ Ok b → ((a : A) → m ≡ Ok a → go a ≡ Ok b → Q) → Q
by_bind (Ok a) go b Q e next = next a refl e
by_bind (Err fault) go b Q e next = absurd (cc)

-- the fields before a given one
record Read : Type 0 where
  rounds : ℕ
  inputs : List (List PortValue)
  events : List Event
  clocks : Clocks
  delays : List (List ℕ)
  trace : List (List ℕ)
  properties : List PropertyValue

abbrev made : Read → List NodeNo → List RoundFault → List Pair → List Processor → Scenario
made x replicas faults plants processors = record {
  rounds = x.rounds;
  env = record { lists = x.inputs };
  events = x.events;
  clocks = x.clocks;
  delays = record { lists = x.delays };
  trace = x.trace;
  properties = x.properties;
  replicas = replicas;
  faults = faults;
  plants = plants;
  processors = processors;
}

abbrev from_plants : Data → DesignParts → Command → Read → List NodeNo → List RoundFault → Result Scenario ScenarioFault
from_plants d design command x r f =
    plants_field design d >>= λ pl. processors_field design command d >>= λ pr. Ok (made x r f pl pr)

abbrev from_replicas : Data → DesignParts → Command → Read → Result Scenario ScenarioFault
from_replicas d design command x =
    replicas_field design d >>= λ r. faults_field design r d >>= λ f. from_plants d design command x r f

abbrev from_trace : Data → DesignParts → Command → ℕ → List (List PortValue) → List Event → Clocks → List (List ℕ)
    → Result Scenario ScenarioFault
from_trace d design command n i v c l =
    trace_field command d >>= λ t. properties_field design command d >>= λ p.
    from_replicas d design command
    (record { rounds = n; inputs = i; events = v; clocks = c; delays = l; trace = t; properties = p })

abbrev from_clocks : Data → DesignParts → Command → ℕ → List (List PortValue) → List Event
    → Result Scenario ScenarioFault
from_clocks d design command n i v =
    clocks_field design d >>= λ c. delays_field design d >>= λ l. from_trace d design command n i v c l

-- their invariants
record Keeps (design : DesignParts) (x : Read) : Type 0 where
  rounds_are : AreRounds design x.rounds
  inputs_are : AreInputsOf design x.inputs
  clocks_are : AreClocksFor design x.clocks
  delays_are : AreDelaysOf design x.delays

all_kept : (design : DesignParts) (x : Read) (r : List NodeNo) (f : List RoundFault) (pl : List Pair)
    (pr : List Processor) (s : Scenario) → Keeps design x → All (IsFaultOf design r) f → All (IsProcessorOf design) pr
    → read_as (made x r f pl pr) ≡ read_as s → IsScenarioOf design s
all_kept design x r f pl pr s keeps faults processors e =
    subst (IsScenarioOf design) (ok_same (made x r f pl pr) s e) (record {
      long = keeps.rounds_are.long;
      small = keeps.rounds_are.small;
      inputs = keeps.inputs_are;
      clock = keeps.clocks_are;
      delay = keeps.delays_are;
      fault = faults;
      processor = processors;
    })

plants_on : (d : Data) (design : DesignParts) (command : Command) (s : Scenario) (x : Read) (r : List NodeNo)
    (f : List RoundFault) → Keeps design x → All (IsFaultOf design r) f → from_plants d design command x r f ≡ Ok s
    → IsScenarioOf design s
plants_on d design command s x r f keeps faults e =
    by_bind (plants_field design d) (λ pl. processors_field design command d >>= λ pr. Ok (made x r f pl pr)) s
    (IsScenarioOf design s) e (λ pl is_pl rest.
    by_bind (processors_field design command d) (λ pr. Ok (made x r f pl pr)) s (IsScenarioOf design s) rest
    (λ pr is_pr last.
    all_kept design x r f pl pr s keeps faults
    (field_keeps (λ ps. All (IsProcessorOf design) ps) (codes "processors") (needs_processors command) []
    (processors_in design) (get (codes "processors") d) pr (All-nil (IsProcessorOf design))
    (λ y read. processors_are_valid design y pr read) is_pr)
    last))

replicas_on : (d : Data) (design : DesignParts) (command : Command) (s : Scenario) (x : Read) → Keeps design x
    → from_replicas d design command x ≡ Ok s → IsScenarioOf design s
replicas_on d design command s x keeps e =
    by_bind (replicas_field design d) (λ r. faults_field design r d >>= λ f. from_plants d design command x r f) s
    (IsScenarioOf design s) e (λ r is_r rest.
    by_bind (faults_field design r d) (λ f. from_plants d design command x r f) s (IsScenarioOf design s) rest
    (λ f is_f last.
    plants_on d design command s x r f keeps
    (field_keeps (λ fs. All (IsFaultOf design r) fs) (codes "faults") false [] (faults_in design r)
    (get (codes "faults") d) f (All-nil (IsFaultOf design r)) (λ y read. faults_keep design r y f read) is_f)
    last))

trace_on : (d : Data) (design : DesignParts) (command : Command) (s : Scenario) (n : ℕ) (i : List (List PortValue))
    (v : List Event) (c : Clocks) (l : List (List ℕ)) → AreRounds design n → AreInputsOf design i
    → AreClocksFor design c → AreDelaysOf design l → from_trace d design command n i v c l ≡ Ok s
    → IsScenarioOf design s
trace_on d design command s n i v c l rounds inputs clocks delays e =
    by_bind (trace_field command d)
    (λ t. properties_field design command d >>= λ p.
    from_replicas d design command
    (record { rounds = n; inputs = i; events = v; clocks = c; delays = l; trace = t; properties = p })) s
    (IsScenarioOf design s) e (λ t is_t rest.
    by_bind (properties_field design command d)
    (λ p. from_replicas d design command
    (record { rounds = n; inputs = i; events = v; clocks = c; delays = l; trace = t; properties = p })) s
    (IsScenarioOf design s) rest (λ p is_p last.
    replicas_on d design command s
    (record { rounds = n; inputs = i; events = v; clocks = c; delays = l; trace = t; properties = p })
    (record { rounds_are = rounds; inputs_are = inputs; clocks_are = clocks; delays_are = delays }) last))

clocks_on : (d : Data) (design : DesignParts) (command : Command) (s : Scenario) (n : ℕ) (i : List (List PortValue))
    (v : List Event) → design.gamma.mu_min ≤ HOUR → AreRounds design n → AreInputsOf design i
    → from_clocks d design command n i v ≡ Ok s → IsScenarioOf design s
clocks_on d design command s n i v quick rounds inputs e =
    by_bind (clocks_field design d) (λ c. delays_field design d >>= λ l. from_trace d design command n i v c l) s
    (IsScenarioOf design s) e (λ c is_c rest.
    by_bind (delays_field design d) (λ l. from_trace d design command n i v c l) s (IsScenarioOf design s) rest
    (λ l is_l last.
    trace_on d design command s n i v c l rounds inputs
    (field_keeps (AreClocksFor design) (codes "clocks") false Meet (clocks_in design) (get (codes "clocks") d) c tt
    (λ y read. clocks_keep design y c read) is_c)
    (field_keeps (AreDelaysOf design) (codes "delays") false
    (replicate (length design.links) (design.gamma.mu_min ∷ [])) (delays_in design) (get (codes "delays") d) l
    (least_delays_keep design quick) (λ y read. delays_keep design y l quick read) is_l)
    last))

fields_keep : (d : Data) (design : DesignParts) (command : Command) (s : Scenario) → design.gamma.mu_min ≤ HOUR
    → fields_in d design command ≡ Ok s → IsScenarioOf design s
unfolding fields_in
fields_keep d design command s quick e =
    by_bind (rounds_in design d)
    (λ n. inputs_field design d >>= λ i. events_field design command d >>= λ v. from_clocks d design command n i v)
    s (IsScenarioOf design s) e (λ n is_n rest.
    by_bind (inputs_field design d) (λ i. events_field design command d >>= λ v. from_clocks d design command n i v) s
    (IsScenarioOf design s) rest (λ i is_i more.
    by_bind (events_field design command d) (λ v. from_clocks d design command n i v) s (IsScenarioOf design s) more
    (λ v is_v last.
    clocks_on d design command s n i v quick (rounds_keep design d n is_n)
    (field_keeps (AreInputsOf design) (codes "inputs") false (replicate (length (root_inputs design)) [])
    (inputs_in design) (get (codes "inputs") d) i (no_inputs_keep design)
    (λ y read. inputs_keep design y i read) is_i)
    last)))

-- a scenario that a call returns, for tables of the design's names, belongs to the design
pub answer_keeps : (d : Data) (names design : DesignParts) (command : Command) (answer : Result Scenario ScenarioFault)
    → names ≡ design → IsDesign design → Answers (fields_in d names command) answer → IfOk answer (IsScenarioOf design)
answer_keeps d names design command (Ok s) same rules is =
    let network = rules.gamma.network in
    let quick : design.gamma.mu_min ≤ HOUR = omega arith in
    fields_keep d design command s quick (ap (λ x. fields_in d x command) (sym same) ∙ is)
answer_keeps d names design command (Err fault) same rules is = tt
