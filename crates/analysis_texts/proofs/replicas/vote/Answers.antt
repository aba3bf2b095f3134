use Rattle.std.proofs.Common.{◌≡◌, ◌∙◌, [], All, IfOk, sym, ap, subst}
use Rattle.std.proofs.lemmas.Result.{IfOk-weaker}
use Rattle.pals_model.specs.declared.design.DesignParts.{DesignParts}
use Rattle.pals_model.specs.RoundTexts.{report}
use Rattle.analysis_fields.specs.proof.ReplicaFaultsAndProcessors.{IsFaultOf}
use Rattle.triple_vote.specs.proof.VotedStates.{VotedState, voted_begun}
use Rattle.triple_vote.specs.VotedText.{voted_report, tripled_report}
use Rattle.triple_vote.specs.OutvotedFaults.{AreOutvoted}
use Rattle.analysis_texts.specs.ReplicasAndRoundFaults.{replicated_in, faults_of}
use Rattle.analysis_texts.proofs.OutvotedFaults.{rows_outvoted, rows_alone}
use Rattle.analysis_texts.proofs.replicas.vote.Goals as goal

pub voted-requires : goal.voted-requires
voted-requires c =
    let replicas = c.args.replicas.now in
    let made = c.in_ok-product.ensures.begun in
    let same = ap (λ (s : VotedState). s.design) made in
    record {
      product = made ∙ ap (λ (d : DesignParts). voted_begun d (replicated_in d replicas)) (sym same);
      faults = subst (λ (d : DesignParts). All (IsFaultOf d replicas) c.args.faults) (sym same) c.requires;
    }

pub returns : goal.returns
returns c =
    let design = c.args.design in
    let env = c.args.env.now in
    let rounds = c.args.rounds in
    let replicas = c.args.replicas.now in
    let faults = c.args.faults in
    let rules = c.in_ok-product.ensures.rules in
    let rows : IfOk c.voted.result (λ text. text.items
    ≡ voted_report design env (replicated_in design replicas) (faults_of faults) rounds) =
    subst (λ (d : DesignParts).
    IfOk c.voted.result (λ text. text.items ≡ voted_report d env (replicated_in d replicas) (faults_of faults) rounds))
    (ap (λ (s : VotedState). s.design) c.in_ok-product.ensures.begun) c.voted.ensures in
    record {
      rows = rows;
      outvoted =
          IfOk-weaker c.voted.result
          (λ text. text.items ≡ voted_report design env (replicated_in design replicas) (faults_of faults) rounds)
          (λ text. AreOutvoted (faults_of faults)
          → text.items ≡ tripled_report design env (replicated_in design replicas) rounds)
          (λ text is fits. is ∙ rows_outvoted design env replicas faults rounds rules c.requires fits) rows;
      alone =
          IfOk-weaker c.voted.result
          (λ text. text.items ≡ voted_report design env (replicated_in design replicas) (faults_of faults) rounds)
          (λ text. replicas ≡ [] → text.items ≡ report design env rounds)
          (λ text is none. is ∙ rows_alone design env replicas faults rounds rules c.requires none) rows;
    }
