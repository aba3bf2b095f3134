use Rattle.answer_laws.proofs.BooleansInRuns.{scenarios_fit, states_of_scenarios_fit, messages_of_scenarios_fit}
use Rattle.answer_laws.proofs.BooleansInRuns.{parts_of_scenarios_fit, faults_of_scenarios_fit, votes_of_scenarios_fit}
use Rattle.answer_laws.proofs.BooleansInRuns.{shown_of_scenarios_fit, fused_of_scenarios_fit, buses_of_scenarios_fit}
use Rattle.answer_laws.proofs.boolean_values.booleans_are_two_values.Goals as goal

pub returns : goal.returns
returns c =
    let rules = c.accepted_designs_keep_their_rules.ensures.rules in
    record {
      given = scenarios_fit;
      states = states_of_scenarios_fit rules;
      messages = messages_of_scenarios_fit rules;
      parts = parts_of_scenarios_fit rules;
      faults = faults_of_scenarios_fit;
      votes = votes_of_scenarios_fit rules;
      shown = shown_of_scenarios_fit rules;
      fused = fused_of_scenarios_fit rules c.pairs_can_be_fused.ensures;
      buses = buses_of_scenarios_fit rules;
    }
