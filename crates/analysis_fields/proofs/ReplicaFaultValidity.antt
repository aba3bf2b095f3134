-- Each fault of a parsed scenario belongs to a replica of the design.
use Rattle.std.proofs.Common.{◌≡◌, ℕ, ◌≤◌, ◌+◌, true, not, ◌&&◌, List, [], ◌∷◌, ◌++◌, length, codes, decimal, Result}
use Rattle.std.proofs.Common.{Ok, All, slice_get, sym, ap, ◌∙◌, subst, arith, length-append}
use Rattle.std.specs.Prelude.{nat_eq}
use Rattle.std.specs.List.{list_any}
use Rattle.std.proofs.lemmas.Bool.{eqb-true}
use Rattle.std.proofs.lemmas.List.Elements.{All-nil, All-push}
use Rattle.serde_json.specs.Data.{Data}
use Rattle.pals_base.specs.declared.behaviour.Kind.{Kind}
use Rattle.pals_base.specs.declared.limits.TheConstants.{ROUNDS}
use Rattle.pals_base.specs.declared.basic_types.NodeNo.{NodeNo}
use Rattle.pals_base.specs.declared.basic_types.LinkNo.{LinkNo}
use Rattle.pals_base.specs.declared.basic_types.PortValue.{PortValue}
use Rattle.pals_model.specs.declared.design.DesignParts.{DesignParts}
use Rattle.pals_model.specs.PortKindsAndRates.{rate_of}
use Rattle.scenario_values.specs.declared.fault.ScenarioFault.{ScenarioFault}
use Rattle.scenario_values.specs.declared.fault.ScenarioFault.TheVariants.{WrongKind, Unknown, OutOfRange}
use Rattle.scenario_values.specs.ResultCombinators.{◌>>=◌, only_if, through}
use Rattle.scenario_values.specs.FaultPlaces.{inside}
use Rattle.scenario_values.specs.FieldValues.{elements, text, whole, is_whole, port_value}
use Rattle.scenario_values.proofs.SuccessfulResults.{ok_same, ok_bind, ok_only_if, through_keeps, whole_within}
use Rattle.scenario_values.specs.NameLookup.{node_no, link_no, node_at, link_at}
use Rattle.analysis_fields.specs.proof.ReplicaFaultsAndProcessors.{IsFaultOf}
use Rattle.analysis_fields.specs.declared.replica_faults.FaultEnds.{FaultEnds}
use Rattle.analysis_fields.specs.declared.replica_faults.RoundFault.{RoundFault}
use Rattle.analysis_fields.specs.declared.limits.TheConstants.{REPLICAS}
use Rattle.analysis_fields.specs.ReplicasAndTheirFaults.{is_among, source_in, copies_at, kind_at, with_fault_value}
use Rattle.analysis_fields.specs.ReplicasAndTheirFaults.{fault_values, replica_at, link_from, ends_of, fault_behind}
use Rattle.analysis_fields.specs.ReplicasAndTheirFaults.{fault_of, fault_from, fault_in, has_same_key, with_fault}
use Rattle.analysis_fields.specs.ReplicasAndTheirFaults.{faults_in}

-- ---- values: one for each element
value_more : (kind : Kind) (place : List ℕ) (values : List PortValue) (d : Data) (more : List PortValue)
    → with_fault_value kind place values d ≡ Ok more → length more ≡ length values + 1
value_more kind place values d more e =
    let read = ok_bind (port_value kind place d) (λ v. Ok (values ++ v ∷ [])) more e in
    ap length (sym (ok_same (values ++ read.0 ∷ []) more read.2)) ∙ length-append values (read.0 ∷ [])

values_count : (kind : Kind) (place : List ℕ) (values : List PortValue) (ds : List Data) (all : List PortValue)
    → through (with_fault_value kind place) values ds ≡ Ok all → length all ≡ length values + length ds
values_count kind place values [] all e = let same = ok_same values all e in let counts = ap length same in omega arith
values_count kind place values (d ∷ ds) all e =
    let first =
    ok_bind (with_fault_value kind place values d) (λ next. through (with_fault_value kind place) next ds) all e in
    let one = value_more kind place values d first.0 first.1 in
    let rest = values_count kind place first.0 ds all first.2 in
    omega arith

-- ---- ends
replica_keeps : (design : DesignParts) (replicas : List NodeNo) (place path : List ℕ) (node : NodeNo)
    → replica_at design replicas place path ≡ Ok node → is_among replicas node.0 ≡ true
unfolding replica_at
replica_keeps design replicas place path node e =
    let found =
    ok_bind (node_at place design path)
    (λ n. only_if (is_among replicas n) (Unknown place) (Ok (node_no n))) node e in
    let passed = ok_only_if (is_among replicas found.0) (Unknown place) (Ok (node_no found.0)) node found.2 in
    let P : NodeNo → Type 0 = λ n. is_among replicas n.0 ≡ true in
    subst P (ok_same (node_no found.0) node passed.1) passed.0

link_keeps : (design : DesignParts) (place : List ℕ) (source : NodeNo) (name : List ℕ) (link : LinkNo)
    → link_from design place source name ≡ Ok link → source_in (slice_get design.links link.0) ≡ source.0
unfolding link_from
link_keeps design place source name link e =
    let found =
    ok_bind (link_at place design name)
    (λ l. only_if (nat_eq (source_in (slice_get design.links l)) source.0) (Unknown place)
    (Ok (link_no l))) link e in
    let passed =
    ok_only_if (nat_eq (source_in (slice_get design.links found.0)) source.0) (Unknown place) (Ok (link_no found.0))
    link found.2 in
    let P : LinkNo → Type 0 = λ l. source_in (slice_get design.links l.0) ≡ source.0 in
    subst P (ok_same (link_no found.0) link passed.1) (eqb-true _ _ passed.0)

record AreEnds (design : DesignParts) (replicas : List NodeNo) (ends : FaultEnds) : Type 0 where
  source : source_in (slice_get design.links ends.link.0) ≡ ends.source.0
  replicated : is_among replicas ends.source.0 ≡ true
  replica : (1 ≤ ends.replica) × (ends.replica ≤ REPLICAS)

ends_keep : (design : DesignParts) (replicas : List NodeNo) (place path name : List ℕ) (replica : Data)
    (ends : FaultEnds) → ends_of design replicas place path name replica ≡ Ok ends → AreEnds design replicas ends
unfolding ends_of
ends_keep design replicas place path name replica ends e =
    let source =
    ok_bind (replica_at design replicas place path)
    (λ s. whole place 1 REPLICAS replica >>= λ r. link_from design place s name >>= λ l.
    Ok (record { source = s; replica = r; link = l })) ends e in
    let number =
    ok_bind (whole place 1 REPLICAS replica)
    (λ r. link_from design place source.0 name >>= λ l. Ok (record { source = source.0; replica = r; link = l }))
    ends source.2 in
    let link =
    ok_bind (link_from design place source.0 name)
    (λ l. Ok (record { source = source.0; replica = number.0; link = l })) ends number.2 in
    let made : FaultEnds = record { source = source.0; replica = number.0; link = link.0 } in
    subst (AreEnds design replicas) (ok_same made ends link.2) (record {
      source = link_keeps design place source.0 name link.0 link.1;
      replicated = replica_keeps design replicas place path source.0 source.1;
      replica = whole_within place 1 REPLICAS replica number.0 number.1;
    })

-- ---- faults
behind_keeps : (design : DesignParts) (replicas : List NodeNo) (place : List ℕ) (ends : FaultEnds) (target round : Data)
    (values : List Data) (f : RoundFault) → AreEnds design replicas ends
    → fault_behind design replicas place ends target round values ≡ Ok f → IsFaultOf design replicas f
unfolding fault_behind
behind_keeps design replicas place ends target round values f keeps e =
    let made : ℕ → ℕ → List PortValue → RoundFault =
    λ t n tuple. record {
      round = n;
      fault = record {
        source = ends.source;
        replica = ends.replica;
        link = ends.link;
        target_replica = t;
        values = tuple;
      };
    } in
    let tail : ℕ → ℕ → Result RoundFault ScenarioFault =
    λ t n. only_if (nat_eq (length values) (rate_of design ends.source.0)) (OutOfRange place)
    (fault_values (kind_at design ends.link.0) place values >>= λ tuple. Ok (made t n tuple)) in
    let copies = copies_at design replicas ends.link.0 in
    let number = ok_bind (whole place 1 copies target) (λ t. whole place 0 ROUNDS round >>= λ n. tail t n) f e in
    let turn = ok_bind (whole place 0 ROUNDS round) (λ n. tail number.0 n) f number.2 in
    let passed =
    ok_only_if (nat_eq (length values) (rate_of design ends.source.0)) (OutOfRange place)
    (fault_values (kind_at design ends.link.0) place values >>= λ tuple.
    Ok (made number.0 turn.0 tuple)) f turn.2 in
    let tuple =
    ok_bind (fault_values (kind_at design ends.link.0) place values) (λ tuple. Ok (made number.0 turn.0 tuple))
    f passed.1 in
    let counted = values_count (kind_at design ends.link.0) place [] values tuple.0 tuple.1 in
    let rate = eqb-true (length values) (rate_of design ends.source.0) passed.0 in
    subst (IsFaultOf design replicas) (ok_same (made number.0 turn.0 tuple.0) f tuple.2) (record {
      source = keeps.source;
      replicated = keeps.replicated;
      replica = keeps.replica;
      target = whole_within place 1 copies target number.0 number.1;
      in_round = (whole_within place 0 ROUNDS round turn.0 turn.1).1;
      count = omega arith;
    })

of_keeps : (design : DesignParts) (replicas : List NodeNo) (place path name : List ℕ) (replica target round : Data)
    (values : List Data) (f : RoundFault) → fault_of design replicas place path name replica target round values ≡ Ok f
    → IsFaultOf design replicas f
unfolding fault_of
of_keeps design replicas place path name replica target round values f e =
    let ends =
    ok_bind (ends_of design replicas place path name replica)
    (λ ends. fault_behind design replicas place ends target round values) f e in
    behind_keeps design replicas place ends.0 target round values f
    (ends_keep design replicas place path name replica ends.0 ends.1) ends.2

from_keeps : (design : DesignParts) (replicas : List NodeNo) (place : List ℕ) (ds : List Data) (f : RoundFault)
    → fault_from design replicas place ds ≡ Ok f → IsFaultOf design replicas f
unfolding fault_from
from_keeps design replicas place (path ∷ replica ∷ link ∷ target ∷ round ∷ values ∷ []) f e =
    let tail : List ℕ → List ℕ → List Data → Result RoundFault ScenarioFault =
    λ p name vs. only_if (is_whole replica && is_whole target && is_whole round) (WrongKind place)
    (fault_of design replicas place p name replica target round vs) in
    let p =
    ok_bind (text place path)
    (λ p. text place link >>= λ name. elements place values >>= λ vs. tail p name vs) f e in
    let name = ok_bind (text place link) (λ name. elements place values >>= λ vs. tail p.0 name vs) f p.2 in
    let vs = ok_bind (elements place values) (λ vs. tail p.0 name.0 vs) f name.2 in
    let passed =
    ok_only_if (is_whole replica && is_whole target && is_whole round) (WrongKind place)
    (fault_of design replicas place p.0 name.0 replica target round vs.0) f vs.2 in
    of_keeps design replicas place p.0 name.0 replica target round vs.0 f passed.1
from_keeps design replicas place ds f e = absurd (cc)

in_keeps : (design : DesignParts) (replicas : List NodeNo) (place : List ℕ) (d : Data) (f : RoundFault)
    → fault_in design replicas place d ≡ Ok f → IsFaultOf design replicas f
unfolding fault_in
in_keeps design replicas place d f e =
    let ds = ok_bind (elements place d) (λ ds. fault_from design replicas place ds) f e in
    from_keeps design replicas place ds.0 f ds.2

more_keeps : (design : DesignParts) (replicas : List NodeNo) (faults : List RoundFault) (d : Data)
    (more : List RoundFault) → All (IsFaultOf design replicas) faults → with_fault design replicas faults d ≡ Ok more
    → All (IsFaultOf design replicas) more
unfolding with_fault
more_keeps design replicas faults d more keeps e =
    let place = inside (codes "faults") (decimal (length faults)) in
    let read =
    ok_bind (fault_in design replicas place d)
    (λ f. only_if (not (list_any (has_same_key f) faults)) (OutOfRange place) (Ok (faults ++ f ∷ []))) more e in
    let passed =
    ok_only_if (not (list_any (has_same_key read.0) faults)) (OutOfRange place) (Ok (faults ++ read.0 ∷ []))
    more read.2 in
    let P : List RoundFault → Type 0 = λ fs. All (IsFaultOf design replicas) fs in
    subst P (ok_same (faults ++ read.0 ∷ []) more passed.1)
    (All-push (IsFaultOf design replicas) faults read.0 keeps (in_keeps design replicas place d read.0 read.1))

pub faults_keep : (design : DesignParts) (replicas : List NodeNo) (d : Data) (faults : List RoundFault)
    → faults_in design replicas d ≡ Ok faults → All (IsFaultOf design replicas) faults
unfolding faults_in
faults_keep design replicas d faults e =
    let ds = ok_bind (elements (codes "faults") d) (λ ds. through (with_fault design replicas) [] ds) faults e in
    through_keeps (λ fs. All (IsFaultOf design replicas) fs) (with_fault design replicas) (more_keeps design replicas)
    [] ds.0 faults (All-nil (IsFaultOf design replicas)) ds.2
