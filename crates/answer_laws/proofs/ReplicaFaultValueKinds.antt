-- For the law that Booleans of a scenario's runs are 0 or 1: the values that its faults give fit the kinds of their
-- links.
use Rattle.std.proofs.Common.{◌≡◌, ℕ, nat_eq, ◌&&◌, false, List, [], ◌∷◌, ◌++◌, length, slice_get, All, codes, decimal}
use Rattle.std.proofs.Common.{Option, Some, None, Result, Ok, subst}
use Rattle.std.specs.Prelude.{filter, not}
use Rattle.std.specs.List.{list_any}
use Rattle.std.proofs.lemmas.List.Elements.{All-nil, All-cons, All-append, All-filter, All-map}
use Rattle.serde_json.specs.Data.{Data}
use Rattle.pals_base.specs.declared.behaviour.Kind.{Kind}
use Rattle.pals_base.specs.declared.limits.TheConstants.{ROUNDS}
use Rattle.pals_base.specs.declared.basic_types.NodeNo.{NodeNo}
use Rattle.pals_base.specs.declared.basic_types.PortValue.{PortValue}
use Rattle.pals_model.specs.declared.design.DesignParts.{DesignParts}
use Rattle.pals_model.specs.PortKindsAndRates.{rate_of}
use Rattle.pals_model.specs.proof.ValuesFitKinds.{PortFits, TupleFits}
use Rattle.scenario_values.specs.declared.fault.ScenarioFault.{ScenarioFault}
use Rattle.scenario_values.specs.declared.fault.ScenarioFault.TheVariants.{WrongKind, OutOfRange}
use Rattle.scenario_values.specs.ResultCombinators.{◌>>=◌, only_if, through}
use Rattle.scenario_values.specs.FaultPlaces.{inside}
use Rattle.scenario_values.specs.FieldValues.{elements, text, whole, is_whole, port_value}
use Rattle.scenario_values.proofs.SuccessfulResults.{ok_same, ok_bind, ok_only_if, through_keeps}
use Rattle.analysis_fields.specs.declared.replica_faults.FaultEnds.{FaultEnds}
use Rattle.analysis_fields.specs.declared.replica_faults.RoundFault.{RoundFault}
use Rattle.analysis_fields.specs.ReplicasAndTheirFaults.{copies_at, kind_in, kind_at, with_fault_value, fault_values}
use Rattle.analysis_fields.specs.ReplicasAndTheirFaults.{ends_of, fault_behind, fault_of, fault_from, fault_in}
use Rattle.analysis_fields.specs.ReplicasAndTheirFaults.{has_same_key, with_fault, faults_in}
use Rattle.analysis_texts.specs.ReplicasAndRoundFaults.{faults_of}
use Rattle.scenario_json.specs.Scenarios.{field}
use Rattle.kind_laws.specs.proof.VotedKinds.{FaultFits, FaultsFit}
use Rattle.answer_laws.proofs.InputValueKinds.{value_fits}

-- of a fault with its round
abbrev pub RoundFaultFits : DesignParts → RoundFault → Type 0
RoundFaultFits design f = FaultFits design f.fault

-- ---- values
more_fit : (kind : Kind) (place : List ℕ) (values : List PortValue) (d : Data) (more : List PortValue)
    → TupleFits kind values
    → with_fault_value kind place values d ≡ Ok more → TupleFits kind more
more_fit kind place values d more fits e =
    let v = ok_bind (port_value kind place d) (λ x. Ok (values ++ x ∷ [])) more e in
    subst (TupleFits kind) (ok_same (values ++ v.0 ∷ []) more v.2)
    (All-append (PortFits kind) values (v.0 ∷ []) fits
    (All-cons (PortFits kind) v.0 [] (value_fits kind place d v.0 v.1) (All-nil (PortFits kind))))

values_fit : (kind : Kind) (place : List ℕ) (ds : List Data) (tuple : List PortValue)
    → fault_values kind place ds ≡ Ok tuple
    → TupleFits kind tuple
values_fit kind place ds tuple e =
    through_keeps (TupleFits kind) (with_fault_value kind place)
    (λ so_far d more fits one. more_fit kind place so_far d more fits one) [] ds tuple (All-nil (PortFits kind)) e

-- ---- one fault
behind_fits : (design : DesignParts) (replicas : List NodeNo) (place : List ℕ) (ends : FaultEnds) (target round : Data)
    (values : List Data) (f : RoundFault)
    → fault_behind design replicas place ends target round values ≡ Ok f → RoundFaultFits design f
unfolding fault_behind kind_at
behind_fits design replicas place ends target round values f e =
    let kind = kind_in design (slice_get design.links ends.link.0) in
    let made : ℕ → ℕ → List PortValue → RoundFault =
    λ t n tuple. record {
      round = n;
      fault = record {
        source = ends.source;
        replica = ends.replica;
        link = ends.link;
        target_replica = t;
        values = tuple;
      };
    } in
    let tail : ℕ → ℕ → Result RoundFault ScenarioFault =
    λ t n. only_if (nat_eq (length values) (rate_of design ends.source.0)) (OutOfRange place)
    (fault_values kind place values >>= λ tuple. Ok (made t n tuple)) in
    let copies = copies_at design replicas ends.link.0 in
    let number = ok_bind (whole place 1 copies target) (λ t. whole place 0 ROUNDS round >>= λ n. tail t n) f e in
    let turn = ok_bind (whole place 0 ROUNDS round) (λ n. tail number.0 n) f number.2 in
    let passed =
    ok_only_if (nat_eq (length values) (rate_of design ends.source.0)) (OutOfRange place)
    (fault_values kind place values >>= λ tuple. Ok (made number.0 turn.0 tuple)) f turn.2 in
    let tuple = ok_bind (fault_values kind place values) (λ tuple. Ok (made number.0 turn.0 tuple)) f passed.1 in
    subst (RoundFaultFits design) (ok_same (made number.0 turn.0 tuple.0) f tuple.2)
    (λ link is. subst (λ o. TupleFits (kind_in design o) tuple.0) is (values_fit kind place values tuple.0 tuple.1))

of_fits : (design : DesignParts) (replicas : List NodeNo) (place path name : List ℕ) (replica target round : Data)
    (values : List Data) (f : RoundFault)
    → fault_of design replicas place path name replica target round values ≡ Ok f → RoundFaultFits design f
unfolding fault_of
of_fits design replicas place path name replica target round values f e =
    let ends =
    ok_bind (ends_of design replicas place path name replica)
    (λ ends. fault_behind design replicas place ends target round values) f e in
    behind_fits design replicas place ends.0 target round values f ends.2

from_fits : (design : DesignParts) (replicas : List NodeNo) (place : List ℕ) (ds : List Data) (f : RoundFault)
    → fault_from design replicas place ds ≡ Ok f → RoundFaultFits design f
unfolding fault_from
from_fits design replicas place (path ∷ replica ∷ link ∷ target ∷ round ∷ values ∷ []) f e =
    let tail : List ℕ → List ℕ → List Data → Result RoundFault ScenarioFault =
    λ p name vs. only_if (is_whole replica && is_whole target && is_whole round) (WrongKind place)
    (fault_of design replicas place p name replica target round vs) in
    let p =
    ok_bind (text place path)
    (λ p. text place link >>= λ name. elements place values >>= λ vs. tail p name vs) f e in
    let name = ok_bind (text place link) (λ name. elements place values >>= λ vs. tail p.0 name vs) f p.2 in
    let vs = ok_bind (elements place values) (λ vs. tail p.0 name.0 vs) f name.2 in
    let passed =
    ok_only_if (is_whole replica && is_whole target && is_whole round) (WrongKind place)
    (fault_of design replicas place p.0 name.0 replica target round vs.0) f vs.2 in
    of_fits design replicas place p.0 name.0 replica target round vs.0 f passed.1
from_fits design replicas place ds f e = absurd (cc)

in_fits : (design : DesignParts) (replicas : List NodeNo) (place : List ℕ) (d : Data) (f : RoundFault)
    → fault_in design replicas place d ≡ Ok f → RoundFaultFits design f
unfolding fault_in
in_fits design replicas place d f e =
    let ds = ok_bind (elements place d) (λ ds. fault_from design replicas place ds) f e in
    from_fits design replicas place ds.0 f ds.2

-- ---- all of them
one_more : (design : DesignParts) (replicas : List NodeNo) (faults : List RoundFault) (d : Data)
    (more : List RoundFault)
    → All (RoundFaultFits design) faults → with_fault design replicas faults d ≡ Ok more
    → All (RoundFaultFits design) more
unfolding with_fault
one_more design replicas faults d more fit e =
    let place = inside (codes "faults") (decimal (length faults)) in
    let read =
    ok_bind (fault_in design replicas place d)
    (λ f. only_if (not (list_any (has_same_key f) faults)) (OutOfRange place) (Ok (faults ++ f ∷ []))) more e in
    let passed =
    ok_only_if (not (list_any (has_same_key read.0) faults)) (OutOfRange place) (Ok (faults ++ read.0 ∷ []))
    more read.2 in
    let fits = in_fits design replicas place d read.0 read.1 in
    subst (All (RoundFaultFits design)) (ok_same (faults ++ read.0 ∷ []) more passed.1)
    (All-append (RoundFaultFits design) faults (read.0 ∷ []) fit
    (All-cons (RoundFaultFits design) read.0 [] fits (All-nil (RoundFaultFits design))))

faults_fit : (design : DesignParts) (replicas : List NodeNo) (d : Data) (faults : List RoundFault)
    → faults_in design replicas d ≡ Ok faults
    → All (RoundFaultFits design) faults
unfolding faults_in
faults_fit design replicas d faults e =
    let ds = ok_bind (elements (codes "faults") d) (λ ds. through (with_fault design replicas) [] ds) faults e in
    through_keeps (All (RoundFaultFits design)) (with_fault design replicas)
    (λ so_far x more fit one. one_more design replicas so_far x more fit one) [] ds.0 faults
    (All-nil (RoundFaultFits design)) ds.2

pub faults_field_fit : (design : DesignParts) (replicas : List NodeNo) (o : Option Data) (faults : List RoundFault)
    → field (codes "faults") false [] (faults_in design replicas) o ≡ Ok faults → All (RoundFaultFits design) faults
faults_field_fit design replicas None faults e =
    subst (All (RoundFaultFits design)) (ok_same [] faults e) (All-nil (RoundFaultFits design))
faults_field_fit design replicas (Some d) faults e = faults_fit design replicas d faults e

-- ---- round by round
pub each_round : (design : DesignParts) (faults : List RoundFault) → All (RoundFaultFits design) faults
    → FaultsFit design (faults_of faults)
each_round design faults fit round =
    All-map (FaultFits design) (λ (f : RoundFault). f.fault) (filter (λ (f : RoundFault). nat_eq f.round round) faults)
    (All-filter (λ (f : RoundFault). nat_eq f.round round) (RoundFaultFits design) faults fit)
