-- The law that Booleans of a scenario's runs are 0 or 1, for each design and scenario that a bundle means.
use Rattle.std.proofs.Common.{ℕ, List}
use Rattle.pals_model.specs.declared.design.DesignParts.{DesignParts}
use Rattle.pals_model.specs.DesignRules.{IsDesign}
use Rattle.pals_model.proofs.RoundsKeepKinds.{states_fit, messages_fit, parts_fit}
use Rattle.bundle_designs.specs.AcceptedAndRefusedPackages.{IsAccepted}
use Rattle.analysis_texts.specs.ReplicasAndRoundFaults.{replicated_in, faults_of}
use Rattle.scenario_laws.specs.proof.FusiblePairs.{PairsCanBeFused}
use Rattle.kind_laws.proofs.VotedKinds.{voted_fit, shown_fit}
use Rattle.kind_laws.proofs.FusedKinds.{solutions_fit}
use Rattle.kind_laws.proofs.BusKinds.{buses_fit}
use Rattle.pals_top.specs.BundleScenarios.{run_of}
use Rattle.answer_laws.specs.proof.BooleansInRuns.{ScenariosFit, StatesOfScenariosFit, MessagesOfScenariosFit}
use Rattle.answer_laws.specs.proof.BooleansInRuns.{PartsOfScenariosFit, FaultsOfScenariosFit, VotesOfScenariosFit}
use Rattle.answer_laws.specs.proof.BooleansInRuns.{ShownOfScenariosFit, FusedOfScenariosFit, BusesOfScenariosFit}
use Rattle.answer_laws.proofs.InputValueKinds.{lists_to_env}
use Rattle.answer_laws.proofs.ReplicaFaultValueKinds.{each_round}
use Rattle.answer_laws.proofs.ScenarioValueKinds.{meant_by}

pub scenarios_fit : ScenariosFit
scenarios_fit root bundle command design scenario has =
    lists_to_env design scenario.env (meant_by has.bytes design command scenario has.means).inputs

pub faults_of_scenarios_fit : FaultsOfScenariosFit
faults_of_scenarios_fit root bundle command design scenario has =
    each_round design scenario.faults (meant_by has.bytes design command scenario has.means).faults

module _ (rules : (root bundle : List ℕ) (design : DesignParts) (scenario : List ℕ)
    → IsAccepted root bundle design scenario → IsDesign design) where
  pub states_of_scenarios_fit : StatesOfScenariosFit
  states_of_scenarios_fit root bundle command design scenario has = λ node rounds c is_c.
      states_fit design scenario.env node rounds c (rules root bundle design has.bytes has.accepted)
      (scenarios_fit root bundle command design scenario has) is_c

  pub messages_of_scenarios_fit : MessagesOfScenariosFit
  messages_of_scenarios_fit root bundle command design scenario has = λ number round link is_link.
      messages_fit design scenario.env number round link (rules root bundle design has.bytes has.accepted)
      (scenarios_fit root bundle command design scenario has) is_link

  pub parts_of_scenarios_fit : PartsOfScenariosFit
  parts_of_scenarios_fit root bundle command design scenario has = λ node round c is_c.
      parts_fit design scenario.env node round c (rules root bundle design has.bytes has.accepted)
      (scenarios_fit root bundle command design scenario has) is_c

  pub votes_of_scenarios_fit : VotesOfScenariosFit
  votes_of_scenarios_fit root bundle command design scenario has = λ rounds.
      voted_fit design scenario.env (replicated_in design scenario.replicas) (faults_of scenario.faults) rounds
      (rules root bundle design has.bytes has.accepted)
      (scenarios_fit root bundle command design scenario has)
      (faults_of_scenarios_fit root bundle command design scenario has)

  pub shown_of_scenarios_fit : ShownOfScenariosFit
  shown_of_scenarios_fit root bundle command design scenario has = λ tap round.
      shown_fit design scenario.env (replicated_in design scenario.replicas) (faults_of scenario.faults) tap round
      (rules root bundle design has.bytes has.accepted)
      (scenarios_fit root bundle command design scenario has)
      (faults_of_scenarios_fit root bundle command design scenario has)

  pub fused_of_scenarios_fit : PairsCanBeFused → FusedOfScenariosFit
  fused_of_scenarios_fit fused root bundle command design scenario has = λ rounds ins solves.
      solutions_fit design scenario.plants scenario.env rounds ins (rules root bundle design has.bytes has.accepted)
      (fused has.bytes command design scenario has.means) (scenarios_fit root bundle command design scenario has) solves

  pub buses_of_scenarios_fit : BusesOfScenariosFit
  buses_of_scenarios_fit root bundle command design scenario has = λ s agrees.
      buses_fit (run_of design scenario) s (rules root bundle design has.bytes has.accepted)
      (scenarios_fit root bundle command design scenario has) agrees
