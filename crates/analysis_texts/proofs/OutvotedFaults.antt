-- If votes hide all faults, the voted rows are the rows of the composition; and so they are without replicas.
use Rattle.std.proofs.Common.{◌≡◌, ◌∙◌, ℕ, false, List, [], ◌∷◌, length, All, refl, sym, subst, arith}
use Rattle.std.specs.Prelude.{Contains}
use Rattle.std.proofs.lemmas.Bool.{false≢true}
use Rattle.std.proofs.lemmas.List.Elements.{All-head}
use Rattle.std.proofs.Math.ListN.{get_or-map}
use Rattle.pals_base.specs.UpwardNumbers.{upwards}
use Rattle.pals_base.specs.declared.basic_types.NodeNo.{NodeNo}
use Rattle.pals_model.specs.declared.design.DesignParts.{DesignParts}
use Rattle.pals_model.specs.declared.environment.Env.{Env}
use Rattle.pals_model.specs.RoundTexts.{report}
use Rattle.pals_model.specs.DesignRules.{IsDesign}
use Rattle.analysis_fields.specs.declared.replica_faults.RoundFault.{RoundFault}
use Rattle.analysis_fields.specs.proof.ReplicaFaultsAndProcessors.{IsFaultOf}
use Rattle.analysis_fields.specs.ReplicasAndTheirFaults.{is_among}
use Rattle.triple_vote.specs.OutvotedFaults.{AreOutvoted}
use Rattle.triple_vote.specs.VotedComposition.{is_replicated}
use Rattle.triple_vote.specs.VotedText.{voted_report, tripled_report}
use Rattle.triple_vote.proofs.OutvotedFaultReports.{report_is_thrice, thrice_without_replicas}
use Rattle.analysis_texts.specs.ReplicasAndRoundFaults.{replicated_in, faults_of}
use Rattle.analysis_texts.proofs.WellFormedVoteFaults.{faults_keep}

-- a component without replicas has no faults
no_faults : (design : DesignParts) (faults : List RoundFault) → All (IsFaultOf design []) faults → faults ≡ []
no_faults design [] are = refl
no_faults design (f ∷ faults) are = absurd (false≢true ((All-head (IsFaultOf design []) f faults are).replicated))

none_outvoted : AreOutvoted (faults_of [])
none_outvoted round f g has_f has_g link target = absurd (nothing has_f)
  where
    nothing : Contains [] f → ⊥
    nothing (k, below, is) = absurd (omega (arith, below))

none_replicated : (design : DesignParts) (node : ℕ) → is_replicated (replicated_in design []) node ≡ false
none_replicated design node = get_or-map (is_among []) (upwards 0 (length design.components)) node 0

module _ (design : DesignParts) (env : Env) (replicas : List NodeNo) (faults : List RoundFault) (rounds : ℕ)
    (rules : IsDesign design) (keep : All (IsFaultOf design replicas) faults) where
  pub rows_outvoted : AreOutvoted (faults_of faults)
      → voted_report design env (replicated_in design replicas) (faults_of faults) rounds
      ≡ tripled_report design env (replicated_in design replicas) rounds
  rows_outvoted outvoted =
      report_is_thrice design env (replicated_in design replicas) (faults_of faults) rounds rules
      (λ round. faults_keep design replicas faults round keep) outvoted

  pub rows_alone : replicas ≡ []
      → voted_report design env (replicated_in design replicas) (faults_of faults) rounds ≡ report design env rounds
  rows_alone none =
      let no_fault =
      no_faults design faults (subst (λ (rs : List NodeNo). All (IsFaultOf design rs) faults) none keep) in
      let outvoted = subst (λ (fs : List RoundFault). AreOutvoted (faults_of fs)) (sym no_fault) none_outvoted in
      let single =
      subst (λ (rs : List NodeNo). (node : ℕ) → is_replicated (replicated_in design rs) node ≡ false) (sym none)
      (none_replicated design) in
      rows_outvoted outvoted ∙ thrice_without_replicas design env (replicated_in design replicas) rounds single
