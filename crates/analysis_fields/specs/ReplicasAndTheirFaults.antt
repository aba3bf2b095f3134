-- The meaning of the fields of replicas and of their faults, or their first fault.
use Rattle.std.specs.Prelude.{ℕ, nat_eq, codes, decimal, List, [], ◌∷◌, ◌++◌, length, Bool, not, ◌&&◌, Option, Some}
use Rattle.std.specs.Prelude.{None, slice_get, Result, Ok, Err, if◌then◌else◌}
use Rattle.std.specs.List.{list_any}
use Rattle.serde_json.specs.Data.{Data}
use Rattle.pals_base.specs.declared.behaviour.Kind.{Kind}
use Rattle.pals_base.specs.declared.behaviour.Kind.TheVariants.{Integer}
use Rattle.pals_base.specs.declared.basic_types.NodeNo.{NodeNo}
use Rattle.pals_base.specs.declared.basic_types.LinkNo.{LinkNo}
use Rattle.pals_base.specs.declared.basic_types.PortValue.{PortValue}
use Rattle.pals_base.specs.declared.limits.TheConstants.{ROUNDS}
use Rattle.pals_model.specs.declared.design.Link.{Link}
use Rattle.pals_model.specs.declared.design.DesignParts.{DesignParts}
use Rattle.pals_model.specs.PortKindsAndRates.{rate_of, out_kind}
use Rattle.scenario_values.specs.declared.fault.ScenarioFault.{ScenarioFault}
use Rattle.scenario_values.specs.declared.fault.ScenarioFault.TheVariants.{WrongKind, Unknown, OutOfRange}
use Rattle.analysis_fields.specs.declared.replica_faults.FaultEnds.{FaultEnds}
use Rattle.analysis_fields.specs.declared.replica_faults.FaultKey.{FaultKey}
use Rattle.analysis_fields.specs.declared.replica_faults.RoundFault.{RoundFault}
use Rattle.analysis_fields.specs.declared.limits.TheConstants.{REPLICAS}
use Rattle.scenario_values.specs.ResultCombinators.{◌>>=◌, only_if, through}
use Rattle.scenario_values.specs.FaultPlaces.{inside}
use Rattle.scenario_values.specs.FieldValues.{elements, text, whole, is_whole, port_value}
use Rattle.scenario_values.specs.NameLookup.{node_no, link_no, node_at, link_at}

-- ---- replicas
abbrev pub is_among : List NodeNo → ℕ → Bool
is_among nodes node = list_any (λ (n : NodeNo). nat_eq n.0 node) nodes

-- one more component, which is not among the earlier ones
unfoldable pub with_replica : DesignParts → List NodeNo → Data → Result (List NodeNo) ScenarioFault
with_replica design replicas d =
    let place = inside (codes "replicas") (decimal (length replicas)) in
    text place d >>= λ path. node_at place design path >>= λ node.
    only_if (not (is_among replicas node)) (OutOfRange place) (Ok (replicas ++ node_no node ∷ []))

unfoldable pub replicas_in : DesignParts → Data → Result (List NodeNo) ScenarioFault
replicas_in design d = elements (codes "replicas") d >>= λ ds. through (with_replica design) [] ds

-- ---- the ends of links
abbrev pub source_in : Option Link → ℕ
source_in None = 0
source_in (Some link) = link.source.0

abbrev pub target_in : Option Link → ℕ
target_in None = 0
target_in (Some link) = link.target.0

abbrev pub kind_in : DesignParts → Option Link → Kind
kind_in design None = Integer
kind_in design (Some link) = out_kind (slice_get design.components link.source.0) link.out_port

-- the number of replicas of a component
abbrev pub replicas_of : List NodeNo → ℕ → ℕ
replicas_of replicas node = if is_among replicas node then REPLICAS else 1

-- the number of replicas that receive on a link, and the type of the link's values
unfoldable pub copies_at : DesignParts → List NodeNo → ℕ → ℕ
copies_at design replicas link = replicas_of replicas (target_in (slice_get design.links link))

unfoldable pub kind_at : DesignParts → ℕ → Kind
kind_at design link = kind_in design (slice_get design.links link)

-- ---- faults
-- one more value of a fault
abbrev pub with_fault_value : Kind → List ℕ → List PortValue → Data → Result (List PortValue) ScenarioFault
with_fault_value kind place values d = port_value kind place d >>= λ v. Ok (values ++ v ∷ [])

abbrev pub fault_values : Kind → List ℕ → List Data → Result (List PortValue) ScenarioFault
fault_values kind place ds = through (with_fault_value kind place) [] ds

-- a replicated component
unfoldable pub replica_at : DesignParts → List NodeNo → List ℕ → List ℕ → Result NodeNo ScenarioFault
replica_at design replicas place path =
    node_at place design path >>= λ node. only_if (is_among replicas node) (Unknown place) (Ok (node_no node))

-- a link whose source is a component
unfoldable pub link_from : DesignParts → List ℕ → NodeNo → List ℕ → Result LinkNo ScenarioFault
link_from design place source name =
    link_at place design name >>= λ link.
    only_if (nat_eq (source_in (slice_get design.links link)) source.0) (Unknown place) (Ok (link_no link))

-- the sending replica, and the link on which it sends
unfoldable pub ends_of : DesignParts → List NodeNo → List ℕ → List ℕ → List ℕ → Data → Result FaultEnds ScenarioFault
ends_of design replicas place path name replica =
    replica_at design replicas place path >>= λ source. whole place 1 REPLICAS replica >>= λ r.
    link_from design place source name >>= λ link.
    Ok (record { source = source; replica = r; link = link })

-- the replica of the target, the round and the values, after the ends
unfoldable pub fault_behind : DesignParts → List NodeNo → List ℕ → FaultEnds → Data → Data → List Data
    → Result RoundFault ScenarioFault
fault_behind design replicas place ends target round values =
    whole place 1 (copies_at design replicas ends.link.0) target >>= λ t. whole place 0 ROUNDS round >>= λ n.
    only_if (nat_eq (length values) (rate_of design ends.source.0)) (OutOfRange place)
    (fault_values (kind_at design ends.link.0) place values >>= λ tuple.
    Ok (record {
      round = n;
      fault =
          record {
            source = ends.source;
            replica = ends.replica;
            link = ends.link;
            target_replica = t;
            values = tuple;
          };
    }))

-- a fault whose parts have the right JSON types
unfoldable pub fault_of : DesignParts → List NodeNo → List ℕ → List ℕ → List ℕ → Data → Data → Data → List Data
    → Result RoundFault ScenarioFault
fault_of design replicas place path name replica target round values =
    ends_of design replicas place path name replica >>= λ ends.
    fault_behind design replicas place ends target round values

-- the JSON types of a fault are checked first
unfoldable pub fault_from : DesignParts → List NodeNo → List ℕ → List Data → Result RoundFault ScenarioFault
fault_from design replicas place (path ∷ replica ∷ link ∷ target ∷ round ∷ values ∷ []) =
    text place path >>= λ p. text place link >>= λ name. elements place values >>= λ vs.
    only_if (is_whole replica && is_whole target && is_whole round) (WrongKind place)
    (fault_of design replicas place p name replica target round vs)
fault_from design replicas place ds = Err (WrongKind place)

unfoldable pub fault_in : DesignParts → List NodeNo → List ℕ → Data → Result RoundFault ScenarioFault
fault_in design replicas place d = elements place d >>= λ ds. fault_from design replicas place ds

-- the key of a fault
abbrev pub key_of : RoundFault → FaultKey
key_of f =
    record {
      round = f.round;
      replica = f.fault.replica;
      link = f.fault.link.0;
      target_replica = f.fault.target_replica;
    }

-- the same replica, link, replica of the target, and round
abbrev pub has_same_key : RoundFault → RoundFault → Bool
has_same_key a b =
    nat_eq a.round b.round && nat_eq a.fault.replica b.fault.replica && nat_eq a.fault.link.0 b.fault.link.0
    && nat_eq a.fault.target_replica b.fault.target_replica

-- one more fault, whose key differs from the keys of the earlier ones
unfoldable pub with_fault : DesignParts → List NodeNo → List RoundFault → Data → Result (List RoundFault) ScenarioFault
with_fault design replicas faults d =
    let place = inside (codes "faults") (decimal (length faults)) in
    fault_in design replicas place d >>= λ f.
    only_if (not (list_any (has_same_key f) faults)) (OutOfRange place) (Ok (faults ++ f ∷ []))

unfoldable pub faults_in : DesignParts → List NodeNo → Data → Result (List RoundFault) ScenarioFault
faults_in design replicas d = elements (codes "faults") d >>= λ ds. through (with_fault design replicas) [] ds
