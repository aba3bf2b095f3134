-- The faults of replicas that a scenario gives in each round are ones that a vote allows.
use Rattle.std.proofs.Common.{◌≡◌, ◌∙◌, ℕ, ◌<◌, nat_eq, Bool, true, false, cond, List, [], ◌∷◌, map, All, Option, Some}
use Rattle.std.proofs.Common.{None, filter, slice_get, refl, sym, subst, arith}
use Rattle.std.proofs.lemmas.List.Elements.{All-nil, All-cons, All-head, All-tail, All-same, All-from_get_or}
use Rattle.pals_base.specs.declared.basic_types.NodeNo.{NodeNo}
use Rattle.pals_base.specs.UpwardNumbers.{upwards}
use Rattle.pals_base.proofs.UpwardNumbers.{get_or-map_upwards, length-map_upwards}
use Rattle.pals_model.specs.declared.design.Link.{Link}
use Rattle.pals_model.specs.declared.design.DesignParts.{DesignParts}
use Rattle.pals_runs.specs.declared.replica_faults.VoteFault.{VoteFault}
use Rattle.analysis_fields.specs.declared.replica_faults.RoundFault.{RoundFault}
use Rattle.analysis_fields.specs.proof.ReplicaFaultsAndProcessors.{IsFaultOf}
use Rattle.analysis_fields.specs.ReplicasAndTheirFaults.{source_in as named_source}
use Rattle.triple_vote.specs.VotedComposition.{source_in}
use Rattle.triple_vote.specs.proof.VoteLaws.{IsFault}
use Rattle.analysis_texts.specs.ReplicasAndRoundFaults.{faults_of}

same_source : (o : Option Link) → source_in o ≡ named_source o
same_source None = refl
same_source (Some link) = refl

one_keeps : (design : DesignParts) (replicas : List NodeNo) (f : RoundFault) → IsFaultOf design replicas f
    → IsFault design f.fault
one_keeps design replicas f keeps =
    record { source = same_source (slice_get design.links f.fault.link.0) ∙ keeps.source; values = keeps.count }

-- the faults of a round
kept_by : (design : DesignParts) (f : RoundFault) (rest : List RoundFault) (here : Bool) → IsFault design f.fault
    → All (IsFault design) (map (λ (g : RoundFault). g.fault) rest)
    → All (IsFault design) (map (λ (g : RoundFault). g.fault) (cond here (f ∷ rest) rest))
kept_by design f rest true keeps others =
    All-cons (IsFault design) f.fault (map (λ (g : RoundFault). g.fault) rest) keeps others
kept_by design f rest false keeps others = others

pub faults_keep : (design : DesignParts) (replicas : List NodeNo) (faults : List RoundFault) (round : ℕ)
    → All (IsFaultOf design replicas) faults
    → All (IsFault design) (faults_of faults round)
faults_keep design replicas [] round keep = All-nil (IsFault design)
faults_keep design replicas (f ∷ faults) round keep =
    kept_by design f (filter (λ (g : RoundFault). nat_eq g.round round) faults) (nat_eq f.round round)
    (one_keeps design replicas f (All-head (IsFaultOf design replicas) f faults keep))
    (faults_keep design replicas faults round (All-tail (IsFaultOf design replicas) f faults keep))

-- the faults of each round
pub rounds_keep : (design : DesignParts) (replicas : List NodeNo) (faults : List RoundFault) (rounds : ℕ)
    (table : List (List VoteFault))
    → All (IsFaultOf design replicas) faults → table ≡ map (faults_of faults) (upwards 0 rounds)
    → All (λ fs. All (IsFault design) fs) table
rounds_keep design replicas faults rounds table keep is =
    let each : List VoteFault → Type 0 = λ fs. All (IsFault design) fs in
    let listed = map (faults_of faults) (upwards 0 rounds) in
    All-same each table listed is
    (All-from_get_or each listed []
    (λ k within.
    let below : k < rounds =
    (let size = length-map_upwards (faults_of faults) 0 rounds in omega (arith, size, within)) in
    subst each (sym (get_or-map_upwards (faults_of faults) rounds k [] below))
    (faults_keep design replicas faults k keep)))
