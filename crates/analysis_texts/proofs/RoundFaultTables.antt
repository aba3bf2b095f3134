-- The table of the faults of each round, with one fault more.
use Rattle.std.proofs.Common.{◌≡◌, ◌∙◌, ℕ, ◌+◌, ◌-◌, true, false, List, [], ◌∷◌, ◌++◌, map, refl, sym, ap}
use Rattle.std.specs.Prelude.{slice_index_or, slice_set}
use Rattle.std.proofs.lemmas.Bool.{eq-eqb, ne_eqb}
use Rattle.std.proofs.lemmas.List.{append-nil}
use Rattle.pals_base.specs.UpwardNumbers.{upwards}
use Rattle.pals_base.proofs.UpwardNumbers.{get_or-map_upwards}
use Rattle.pals_runs.specs.declared.replica_faults.VoteFault.{VoteFault}
use Rattle.analysis_fields.specs.declared.replica_faults.RoundFault.{RoundFault}
use Rattle.analysis_texts.specs.ReplicasAndRoundFaults.{faults_of}
use Rattle.analysis_texts.specs.proof.RoundFaultTables.{with_round_fault}
use Rattle.analysis_texts.proofs.FaultAndReplicaTables.{faults-more, set_table}

-- one more fault
pub filed_more : (faults : List RoundFault) (f : RoundFault) (n : ℕ) (table : List (List VoteFault))
    → table ≡ map (faults_of faults) (upwards 0 n)
    → with_round_fault table f ≡ map (faults_of (faults ++ f ∷ [])) (upwards 0 n)
filed_more faults f n table is =
    let item = slice_index_or table f.round [] ++ f.fault ∷ [] in
    ap (λ (t : List (List VoteFault)). slice_set t f.round item) is
    ∙ set_table (faults_of faults) (faults_of (faults ++ f ∷ [])) n f.round item
    (λ below.
    ap (λ (t : List (List VoteFault)). slice_index_or t f.round [] ++ f.fault ∷ []) is
    ∙ ap (λ (fs : List VoteFault). fs ++ f.fault ∷ []) (get_or-map_upwards (faults_of faults) n f.round [] below)
    ∙ sym (faults-more faults f f.round true (eq-eqb f.round f.round refl)))
    (λ k apart. sym (faults-more faults f k false (ne_eqb f.round k (λ same. apart (sym same)))
    ∙ append-nil (faults_of faults k)))
