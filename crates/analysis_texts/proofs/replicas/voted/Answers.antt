use Rattle.std.proofs.Common.{◌≡◌, ◌∙◌, Bool, List, length, map, sym, ap, arith}
use Rattle.std.proofs.lemmas.Result.{IfOk-weaker}
use Rattle.pals_base.specs.UpwardNumbers.{upwards}
use Rattle.pals_base.proofs.UpwardNumbers.{length-map_upwards}
use Rattle.pals_model.specs.declared.design.DesignParts.{DesignParts}
use Rattle.triple_vote.specs.VotedComposition.{voted_opening}
use Rattle.triple_vote.specs.proof.VotedStates.{VotedState}
use Rattle.triple_vote.specs.VotedText.{voted_report}
use Rattle.analysis_texts.specs.ReplicasAndRoundFaults.{replicated_in, faults_of}
use Rattle.analysis_texts.specs.proof.ReplicaNamesAndLines.{all_names}
use Rattle.analysis_texts.proofs.WellFormedVoteFaults.{rounds_keep}
use Rattle.analysis_texts.proofs.replicas.voted.Goals as goal

pub rows-requires : goal.rows-requires
rows-requires c =
    let product = c.args.product.now in
    let design = product.design in
    let replicas = c.args.replicas.now in
    let marked : product.replicated ≡ replicated_in design replicas =
    ap (λ (s : VotedState). s.replicated) c.requires.product in
    let listed = c.as_slice-2.ensures.value ∙ c.in_ok-faults.ensures in
    record {
      opening = ap (λ (s : VotedState). s.voted) c.requires.product ∙ ap (voted_opening design) (sym marked);
      names =
          c.as_slice.ensures.value ∙ c.in_ok-names.ensures
          ∙ ap (λ (d : DesignParts). all_names d.components (replicated_in d replicas)) c.design.ensures
          ∙ ap (all_names design.components) (sym marked);
      count =
          omega (
            arith,
            ap length listed,
            length-map_upwards (faults_of c.args.faults) 0 c.args.rounds,
            c.ranges.rounds.fits,
          );
      faults = rounds_keep design replicas c.args.faults c.args.rounds c.as_slice-2.result.now c.requires.faults listed;
    }

pub returns : goal.returns
returns c =
    let product = c.args.product.now in
    let design = product.design in
    let env = c.args.env.now in
    let replicas = c.args.replicas.now in
    let faults = faults_of c.args.faults in
    let table = c.as_slice-2.result.now in
    let marked : product.replicated ≡ replicated_in design replicas =
    ap (λ (s : VotedState). s.replicated) c.requires.product in
    let listed : table ≡ map faults (upwards 0 c.args.rounds) = c.as_slice-2.ensures.value ∙ c.in_ok-faults.ensures in
    let count : length table ≡ c.args.rounds = ap length listed ∙ length-map_upwards faults 0 c.args.rounds in
    IfOk-weaker c.rows.result (λ text. text.items ≡ voted_report design env product.replicated faults (length table))
    (λ text. text.items ≡ voted_report design env (replicated_in design replicas) faults c.args.rounds)
    (λ text is.
    is ∙ ap (λ (r : List Bool). voted_report design env r faults (length table)) marked
    ∙ ap (voted_report design env (replicated_in design replicas) faults) count)
    (c.rows.ensures faults (listed ∙ ap (λ n. map faults (upwards 0 n)) (sym count)))
