use Rattle.std.proofs.Common.{◌≡◌, ◌∙◌, List, refl, ap}
use Rattle.pals_base.specs.declared.basic_types.NodeNo.{NodeNo}
use Rattle.triple_vote.specs.VotedText.{voted_report, tripled_report}
use Rattle.analysis_texts.specs.ReplicasAndRoundFaults.{replicated_in, faults_of}
use Rattle.pals_top.proofs.vote.VoteCommandScenarioCommand.answer.Goals as goal

pub returns : goal.returns
returns c =
    let design = c.args.design in
    let scenario = c.args.scenario in
    let same : c.as_slice.result.now ≡ scenario.replicas = c.as_slice.ensures.value in
    record {
      status_is = refl;
      text_is =
          c.in_ok-text.ensures.rows
          ∙ ap (λ (rs : List NodeNo).
          voted_report design scenario.env (replicated_in design rs) (faults_of scenario.faults) scenario.rounds) same;
      outvoted = λ fits.
          c.in_ok-text.ensures.outvoted fits
          ∙ ap (λ (rs : List NodeNo). tripled_report design scenario.env (replicated_in design rs) scenario.rounds)
          same;
      alone = λ none. c.in_ok-text.ensures.alone (same ∙ none);
    }
