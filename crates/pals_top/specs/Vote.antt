-- What `vote` makes of a design and a scenario.
use Rattle.std.specs.Prelude.{◌≡◌, ℕ, List, []}
use Rattle.pals_model.specs.declared.design.DesignParts.{DesignParts}
use Rattle.pals_model.specs.RoundTexts.{report}
use Rattle.scenario_json.specs.declared.scenario.Scenario.{Scenario}
use Rattle.triple_vote.specs.VotedText.{voted_report, tripled_report}
use Rattle.triple_vote.specs.OutvotedFaults.{AreOutvoted}
use Rattle.analysis_texts.specs.ReplicasAndRoundFaults.{replicated_in, faults_of}
use Rattle.pals_top.specs.declared.status.TheConstants.{DONE}

-- the rows of the composition in which some components have three replicas, some of them at fault, and each reader
-- votes
pub record IsVoted (design : DesignParts) (scenario : Scenario) (status : ℕ) (text : List ℕ) : Type 0 where
  pub status_is : status ≡ DONE
  pub text_is : text ≡ voted_report design scenario.env (replicated_in design scenario.replicas)
      (faults_of scenario.faults)
      scenario.rounds
  -- if no two replicas are at fault towards one reader in one round, they are the composition's, with each line of a
  -- replicated component three times
  pub outvoted : AreOutvoted (faults_of scenario.faults)
      → text ≡ tripled_report design scenario.env (replicated_in design scenario.replicas) scenario.rounds
  -- without replicas they are the composition's, as `sync` writes them
  pub alone : scenario.replicas ≡ [] → text ≡ report design scenario.env scenario.rounds
