-- Reading the fields of analyses (properties, replicas, faults, plants, processors) has no fault `Memory`: for the
-- claim that bytes mean a scenario or have a first fault.
use Rattle.std.proofs.Common.{ℕ, zero, suc, ◌+◌, List, [], ◌∷◌, Option, Some, None}
use Rattle.std.specs.Prelude.{option_and_then, codes, decimal, length, map, Result}
use Rattle.serde_json.specs.Data.{Data}
use Rattle.serde_json.specs.Find.{as_str, get}
use Rattle.scenario_values.specs.declared.fault.ScenarioFault.TheVariants.{WrongKind}
use Rattle.pals_base.specs.declared.behaviour.Kind.{Kind}
use Rattle.pals_base.specs.declared.limits.TheConstants.{HOUR, ROUNDS}
use Rattle.pals_base.specs.declared.basic_types.NodeNo.{NodeNo}
use Rattle.pals_base.specs.declared.basic_types.PortValue.{PortValue}
use Rattle.pals_model.specs.declared.design.DesignParts.{DesignParts}
use Rattle.pals_runs.specs.declared.plant_pairs.Pair.{Pair}
use Rattle.pals_runs.specs.Formula.{Formula}
use Rattle.scenario_values.specs.declared.fault.ScenarioFault.{ScenarioFault}
use Rattle.scenario_values.specs.FaultPlaces.{inside}
use Rattle.analysis_fields.specs.declared.replica_faults.FaultEnds.{FaultEnds}
use Rattle.analysis_fields.specs.declared.replica_faults.RoundFault.{RoundFault}
use Rattle.analysis_fields.specs.declared.formulas.FormulaWord.{FormulaWord}
use Rattle.analysis_fields.specs.declared.formulas.FormulaWord.TheVariants as role
use Rattle.analysis_fields.specs.declared.limits.TheConstants.{LEVELS, REPLICAS}
use Rattle.analysis_fields.specs.declared.plants.NamedPair.{NamedPair}
use Rattle.analysis_fields.specs.declared.processors.Processor.{Processor}
use Rattle.analysis_fields.specs.NamedFormulas.{PropertyValue}
use Rattle.analysis_fields.specs.Plants.{named_in, pair_in, with_pair, plants_in}
use Rattle.analysis_fields.specs.Processors.{with_member, processor_parts, processor_in, with_processor, all_placed}
use Rattle.analysis_fields.specs.Processors.{first_unplaced, processors_in}
use Rattle.analysis_fields.specs.Properties.{compare_of, variable_at, var_form, halted_form, one_part, two_parts}
use Rattle.analysis_fields.specs.Properties.{form_of, role_in, rest_of, formula_in, property_in, with_property}
use Rattle.analysis_fields.specs.Properties.{properties_in}
use Rattle.analysis_fields.specs.ReplicasAndTheirFaults.{with_replica, replicas_in, copies_at, kind_at}
use Rattle.analysis_fields.specs.ReplicasAndTheirFaults.{with_fault_value}
use Rattle.analysis_fields.specs.ReplicasAndTheirFaults.{replica_at, link_from, ends_of, fault_behind, fault_of}
use Rattle.analysis_fields.specs.ReplicasAndTheirFaults.{fault_from}
use Rattle.analysis_fields.specs.ReplicasAndTheirFaults.{fault_in, with_fault, faults_in}
use Rattle.scenario_laws.proofs.OutcomesWithoutMemoryFault.{IsNotMemory, ok, wrong, out, strange, lacking, bind}
use Rattle.scenario_laws.proofs.OutcomesWithoutMemoryFault.{given_named, only}
use Rattle.scenario_laws.proofs.OutcomesWithoutMemoryFault.{through_named}
use Rattle.scenario_laws.proofs.ValueFaultsExceptMemory.{elements_named, entries_named, whole_named, number_named}
use Rattle.scenario_laws.proofs.ValueFaultsExceptMemory.{text_named}
use Rattle.scenario_laws.proofs.ValueFaultsExceptMemory.{port_value_named, node_at_named, link_at_named}

-- ---- properties
variable_at_named : (place : List ℕ) (design : DesignParts) (node : ℕ) (name : List ℕ)
    → IsNotMemory (variable_at place design node name)
unfolding variable_at
variable_at_named place design node name = given_named _ _ strange

var_form_named : (design : DesignParts) (place : List ℕ) (ds : List Data) → IsNotMemory (var_form design place ds)
unfolding var_form
var_form_named design place [] = wrong
var_form_named design place (a ∷ []) = wrong
var_form_named design place (a ∷ b ∷ []) = wrong
var_form_named design place (a ∷ b ∷ c ∷ []) = wrong
var_form_named design place (path ∷ name ∷ op ∷ value ∷ []) =
    bind _ _ (text_named place path)
    (λ p. bind _ _ (text_named place name)
    (λ n. bind _ _ (given_named (WrongKind place) (option_and_then compare_of (as_str op)) wrong)
    (λ compare. only _ _ _ wrong
    (bind _ _ (node_at_named place design p)
    (λ node. bind _ _ (variable_at_named place design node n)
    (λ variable. bind _ _ (number_named place value) (λ z. ok)))))))
var_form_named design place (a ∷ b ∷ c ∷ d ∷ e ∷ ds) = wrong

halted_form_named : (design : DesignParts) (place : List ℕ) (ds : List Data) → IsNotMemory (halted_form design place ds)
unfolding halted_form
halted_form_named design place [] = wrong
halted_form_named design place (path ∷ []) =
    bind _ _ (text_named place path) (λ p. bind _ _ (node_at_named place design p) (λ node. ok))
halted_form_named design place (a ∷ b ∷ ds) = wrong

one_part_named : (read : Data → Result Formula ScenarioFault) → ((d : Data) → IsNotMemory (read d))
    → (place : List ℕ) (r : FormulaWord) (ds : List Data) → IsNotMemory (one_part read place r ds)
one_part_named read n place r [] = wrong
one_part_named read n place r (d ∷ []) = bind _ _ (n d) (λ f. ok)
one_part_named read n place r (a ∷ b ∷ ds) = wrong

two_parts_named : (read : Data → Result Formula ScenarioFault) → ((d : Data) → IsNotMemory (read d))
    → (place : List ℕ) (r : FormulaWord) (ds : List Data) → IsNotMemory (two_parts read place r ds)
two_parts_named read n place r [] = wrong
two_parts_named read n place r (d ∷ []) = wrong
two_parts_named read n place r (d ∷ e ∷ []) = bind _ _ (n d) (λ f. bind _ _ (n e) (λ g. ok))
two_parts_named read n place r (a ∷ b ∷ c ∷ ds) = wrong

form_of_named : (read : Data → Result Formula ScenarioFault) → ((d : Data) → IsNotMemory (read d))
    → (design : DesignParts) (place : List ℕ) (r : FormulaWord) (ds : List Data)
    → IsNotMemory (form_of read design place r ds)
form_of_named read n design place role.Var ds = var_form_named design place ds
form_of_named read n design place role.Halted ds = halted_form_named design place ds
form_of_named read n design place role.And ds = two_parts_named read n place role.And ds
form_of_named read n design place role.Or ds = two_parts_named read n place role.Or ds
form_of_named read n design place role.Since ds = two_parts_named read n place role.Since ds
form_of_named read n design place role.Not ds = one_part_named read n place role.Not ds
form_of_named read n design place role.Previous ds = one_part_named read n place role.Previous ds
form_of_named read n design place role.Once ds = one_part_named read n place role.Once ds
form_of_named read n design place role.Historically ds = one_part_named read n place role.Historically ds

formula_named : (n : ℕ) (design : DesignParts) (place : List ℕ) (d : Data) → IsNotMemory (formula_in n design place d)
unfolding formula_in
formula_named zero design place d = out
formula_named (suc n) design place d =
    bind _ _ (elements_named place d)
    (λ ds. bind _ _ (given_named (WrongKind place) (role_in ds) wrong)
    (λ r. form_of_named (formula_in n design place) (formula_named n design place) design place r (rest_of ds)))

property_named : (design : DesignParts) (entry : List ℕ × Data) → IsNotMemory (property_in design entry)
unfolding property_in
property_named design entry =
    let place = inside (codes "properties") entry.0 in
    only _ _ _ out (bind _ _ (formula_named LEVELS design place entry.1) (λ f. ok))

with_property_named : (design : DesignParts) (properties : List PropertyValue) (entry : List ℕ × Data)
    → IsNotMemory (with_property design properties entry)
with_property_named design properties entry = bind _ _ (property_named design entry) (λ p. ok)

pub properties_named : (design : DesignParts) (d : Data) → IsNotMemory (properties_in design d)
unfolding properties_in
properties_named design d =
    bind _ _ (entries_named (codes "properties") d)
    (λ es. only _ _ _ out (through_named (with_property design) (with_property_named design) [] es))

-- ---- replicas
with_replica_named : (design : DesignParts) (replicas : List NodeNo) (d : Data)
    → IsNotMemory (with_replica design replicas d)
unfolding with_replica
with_replica_named design replicas d =
    let place = inside (codes "replicas") (decimal (length replicas)) in
    bind _ _ (text_named place d) (λ path. bind _ _ (node_at_named place design path) (λ node. only _ _ _ out ok))

pub replicas_named : (design : DesignParts) (d : Data) → IsNotMemory (replicas_in design d)
unfolding replicas_in
replicas_named design d =
    bind _ _ (elements_named (codes "replicas") d)
    (λ ds. through_named (with_replica design) (with_replica_named design) [] ds)

-- ---- faults
with_fault_value_named : (kind : Kind) (place : List ℕ) (values : List PortValue) (d : Data)
    → IsNotMemory (with_fault_value kind place values d)
with_fault_value_named kind place values d = bind _ _ (port_value_named kind place d) (λ v. ok)

replica_at_named : (design : DesignParts) (replicas : List NodeNo) (place path : List ℕ)
    → IsNotMemory (replica_at design replicas place path)
unfolding replica_at
replica_at_named design replicas place path = bind _ _ (node_at_named place design path) (λ node. only _ _ _ strange ok)

link_from_named : (design : DesignParts) (place : List ℕ) (source : NodeNo) (name : List ℕ)
    → IsNotMemory (link_from design place source name)
unfolding link_from
link_from_named design place source name = bind _ _ (link_at_named place design name) (λ link. only _ _ _ strange ok)

ends_named : (design : DesignParts) (replicas : List NodeNo) (place path name : List ℕ) (replica : Data)
    → IsNotMemory (ends_of design replicas place path name replica)
unfolding ends_of
ends_named design replicas place path name replica =
    bind _ _ (replica_at_named design replicas place path)
    (λ source. bind _ _ (whole_named place 1 REPLICAS replica) (λ r.
    bind _ _ (link_from_named design place source name) (λ link. ok)))

behind_named : (design : DesignParts) (replicas : List NodeNo) (place : List ℕ) (ends : FaultEnds) (target round : Data)
    (values : List Data)
    → IsNotMemory (fault_behind design replicas place ends target round values)
unfolding fault_behind
behind_named design replicas place ends target round values =
    bind _ _ (whole_named place 1 (copies_at design replicas ends.link.0) target)
    (λ t. bind _ _ (whole_named place 0 ROUNDS round) (λ n. only _ _ _ out
    (bind _ _ (through_named (with_fault_value (kind_at design ends.link.0) place)
    (with_fault_value_named (kind_at design ends.link.0) place) [] values) (λ tuple. ok))))

fault_of_named : (design : DesignParts) (replicas : List NodeNo) (place path name : List ℕ)
    (replica target round : Data) (values : List Data)
    → IsNotMemory (fault_of design replicas place path name replica target round values)
unfolding fault_of
fault_of_named design replicas place path name replica target round values =
    bind _ _ (ends_named design replicas place path name replica)
    (λ ends. behind_named design replicas place ends target round values)

fault_from_named : (design : DesignParts) (replicas : List NodeNo) (place : List ℕ) (ds : List Data)
    → IsNotMemory (fault_from design replicas place ds)
unfolding fault_from
fault_from_named design replicas place [] = wrong
fault_from_named design replicas place (a ∷ []) = wrong
fault_from_named design replicas place (a ∷ b ∷ []) = wrong
fault_from_named design replicas place (a ∷ b ∷ c ∷ []) = wrong
fault_from_named design replicas place (a ∷ b ∷ c ∷ d ∷ []) = wrong
fault_from_named design replicas place (a ∷ b ∷ c ∷ d ∷ e ∷ []) = wrong
fault_from_named design replicas place (path ∷ replica ∷ link ∷ target ∷ round ∷ values ∷ []) =
    bind _ _ (text_named place path)
    (λ p. bind _ _ (text_named place link) (λ name. bind _ _ (elements_named place values) (λ vs. only _ _ _ wrong
    (fault_of_named design replicas place p name replica target round vs))))
fault_from_named design replicas place (a ∷ b ∷ c ∷ d ∷ e ∷ f ∷ g ∷ ds) = wrong

fault_named : (design : DesignParts) (replicas : List NodeNo) (place : List ℕ) (d : Data)
    → IsNotMemory (fault_in design replicas place d)
unfolding fault_in
fault_named design replicas place d =
    bind _ _ (elements_named place d) (λ ds. fault_from_named design replicas place ds)

with_fault_named : (design : DesignParts) (replicas : List NodeNo) (faults : List RoundFault) (d : Data)
    → IsNotMemory (with_fault design replicas faults d)
unfolding with_fault
with_fault_named design replicas faults d =
    let place = inside (codes "faults") (decimal (length faults)) in
    bind _ _ (fault_named design replicas place d) (λ f. only _ _ _ out ok)

pub faults_named : (design : DesignParts) (replicas : List NodeNo) (d : Data)
    → IsNotMemory (faults_in design replicas d)
unfolding faults_in
faults_named design replicas d =
    bind _ _ (elements_named (codes "faults") d)
    (λ ds. through_named (with_fault design replicas) (with_fault_named design replicas) [] ds)

-- ---- plants
pair_named : (design : DesignParts) (all : List NamedPair) (entry : List ℕ × Data)
    → IsNotMemory (pair_in design all entry)
unfolding pair_in
pair_named design all entry =
    let place = inside (codes "plants") entry.0 in
    bind _ _ (node_at_named place design entry.0)
    (λ plant. bind _ _ (text_named place entry.1)
    (λ path. bind _ _ (node_at_named place design path) (λ controller. only _ _ _ out ok)))

with_pair_named : (design : DesignParts) (all : List NamedPair) (before : List Pair) (entry : List ℕ × Data)
    → IsNotMemory (with_pair design all before entry)
with_pair_named design all before entry = bind _ _ (pair_named design all entry) (λ p. ok)

pub plants_named : (design : DesignParts) (d : Data) → IsNotMemory (plants_in design d)
unfolding plants_in
plants_named design d =
    bind _ _ (entries_named (codes "plants") d)
    (λ es. through_named (with_pair design (map (named_in design) es))
    (with_pair_named design (map (named_in design) es)) [] es)

-- ---- processors
with_member_named : (design : DesignParts) (place : List ℕ) (number : ℕ) (owners : List ℕ) (d : Data)
    → IsNotMemory (with_member design place number owners d)
unfolding with_member
with_member_named design place number owners d =
    bind _ _ (text_named place d) (λ path. bind _ _ (node_at_named place design path) (λ node. only _ _ _ out ok))

processor_parts_named : (place : List ℕ) (d : Data) → IsNotMemory (processor_parts place d)
unfolding processor_parts
processor_parts_named place d =
    bind _ _ (entries_named place d)
    (λ es. only _ _ _ wrong (bind _ _ (given_named (WrongKind place) (get (codes "nanos") d) wrong)
    (λ nanos. bind _ _ (given_named (WrongKind place) (get (codes "components") d) wrong) (λ components.
    bind _ _ (elements_named place components) (λ ds. only _ _ _ wrong ok)))))

processor_named : (design : DesignParts) (owners : List ℕ) (number : ℕ) (entry : List ℕ × Data)
    → IsNotMemory (processor_in design owners number entry)
unfolding processor_in
processor_named design owners number entry =
    let place = inside (codes "processors") entry.0 in
    only _ _ _ out (bind _ _ (processor_parts_named place entry.1) (λ parts. only _ _ _ out
    (bind _ _ (through_named (with_member design place number) (with_member_named design place number) owners
    parts.1) (λ members.
    bind _ _ (whole_named place 1 HOUR parts.0) (λ nanos. ok)))))

with_processor_named : (design : DesignParts) (before : List ℕ × List Processor) (entry : List ℕ × Data)
    → IsNotMemory (with_processor design before entry)
with_processor_named design before entry =
    bind _ _ (processor_named design before.0 (length before.1 + 1) entry) (λ p. ok)

all_placed_named : (design : DesignParts) (processors : List Processor) (o : Option ℕ)
    → IsNotMemory (all_placed design processors o)
all_placed_named design processors None = ok
all_placed_named design processors (Some node) = lacking

pub processors_named : (design : DesignParts) (d : Data) → IsNotMemory (processors_in design d)
unfolding processors_in
processors_named design d =
    bind _ _ (entries_named (codes "processors") d) (λ es. only _ _ _ out
    (bind _ _ (through_named (with_processor design) (with_processor_named design) _ es)
    (λ placing. all_placed_named design placing.1 (first_unplaced placing.0))))
