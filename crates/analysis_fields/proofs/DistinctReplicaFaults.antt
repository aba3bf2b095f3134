-- The keys of replica faults, by round, replica and link: one more fault is parsed, or rejected if an earlier one has
-- its key.
use Rattle.std.proofs.Common.{◌≡◌, Bool, true, false, not, ◌&&◌, ◌||◌, ℕ, List, [], ◌∷◌, ◌++◌, length, map, codes}
use Rattle.std.proofs.Common.{decimal, Ok, Err, refl, sym, ap, ap₂, ◌∙◌}
use Rattle.std.specs.Prelude.{nat_eq}
use Rattle.std.specs.List.{list_any}
use Rattle.serde_json.specs.Data.{Data}
use Rattle.pals_base.specs.declared.basic_types.NodeNo.{NodeNo}
use Rattle.pals_model.specs.declared.design.DesignParts.{DesignParts}
use Rattle.scenario_values.specs.declared.fault.ScenarioFault.TheVariants.{OutOfRange}
use Rattle.scenario_values.specs.ResultCombinators.{◌>>=◌, only_if}
use Rattle.scenario_values.specs.FaultPlaces.{inside}
use Rattle.analysis_fields.specs.contracts.replica_faults.FaultKeyPartialEq.TheImpl.{ghosts}
use Rattle.analysis_fields.specs.declared.replica_faults.FaultKey.{FaultKey}
use Rattle.analysis_fields.specs.declared.replica_faults.RoundFault.{RoundFault}
use Rattle.analysis_fields.specs.ReplicasAndTheirFaults.{key_of, has_same_key, fault_in, with_fault}

-- a key is among the keys of faults if one of them has it
seen : (same : FaultKey → FaultKey → Bool)
    → ((f g : RoundFault) → same (key_of f) (key_of g) ≡ has_same_key f g)
    → (f : RoundFault) (fs : List RoundFault)
    → list_any (same (key_of f)) (map key_of fs) ≡ list_any (has_same_key f) fs
seen same are f [] = refl
seen same are f (g ∷ gs) = ap₂ (λ a b. a || b) (are f g) (seen same are f gs)

pub is_first : (same : FaultKey → FaultKey → Bool)
    → ((f g : RoundFault) → same (key_of f) (key_of g) ≡ has_same_key f g)
    → (f : RoundFault) (fs : List RoundFault) (place : FaultKey) (places : List FaultKey) (first : Bool)
    → place ≡ key_of f → places ≡ map key_of fs → first ≡ not (list_any (same place) places)
    → first ≡ not (list_any (has_same_key f) fs)
is_first same are f fs place places first at keys is =
    is ∙ ap (λ ks. not (list_any (same place) ks)) keys ∙ ap (λ p. not (list_any (same p) (map key_of fs))) at
    ∙ ap not (seen same are f fs)

-- ---- equal keys
regroup : (a b c d : Bool) → (a && (b && (c && d))) ≡ (a && b && c && d)
regroup false b c d = refl
regroup true false c d = refl
regroup true true c d = refl

pub same_place : (f g : RoundFault) → ghosts.eq (key_of f) (key_of g) ≡ has_same_key f g
same_place f g =
    regroup (nat_eq f.round g.round) (nat_eq f.fault.replica g.fault.replica) (nat_eq f.fault.link.0 g.fault.link.0)
    (nat_eq f.fault.target_replica g.fault.target_replica)

-- ---- one more parsed fault
abbrev fault_place : List RoundFault → List ℕ
fault_place faults = inside (codes "faults") (decimal (length faults))

pub one_more : (design : DesignParts) (replicas : List NodeNo) (faults : List RoundFault) (d : Data) (f : RoundFault)
    → fault_in design replicas (fault_place faults) d ≡ Ok f → true ≡ not (list_any (has_same_key f) faults)
    → with_fault design replicas faults d ≡ Ok (faults ++ f ∷ [])
unfolding with_fault
one_more design replicas faults d f read first =
    ap (λ r. r >>= λ g. only_if (not (list_any (has_same_key g) faults)) (OutOfRange (fault_place faults))
    (Ok (faults ++ g ∷ []))) read
    ∙ ap (λ b. only_if b (OutOfRange (fault_place faults)) (Ok (faults ++ f ∷ []))) (sym first)

pub no_more : (design : DesignParts) (replicas : List NodeNo) (faults : List RoundFault) (d : Data) (f : RoundFault)
    → fault_in design replicas (fault_place faults) d ≡ Ok f → false ≡ not (list_any (has_same_key f) faults)
    → with_fault design replicas faults d ≡ Err (OutOfRange (fault_place faults))
unfolding with_fault
no_more design replicas faults d f read seen_before =
    ap (λ r. r >>= λ g. only_if (not (list_any (has_same_key g) faults)) (OutOfRange (fault_place faults))
    (Ok (faults ++ g ∷ []))) read
    ∙ ap (λ b. only_if b (OutOfRange (fault_place faults)) (Ok (faults ++ f ∷ []))) (sym seen_before)
