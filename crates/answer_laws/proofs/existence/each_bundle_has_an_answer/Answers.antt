use Rattle.answer_laws.proofs.ExistingAnswers.{has_answer}
use Rattle.answer_laws.proofs.existence.each_bundle_has_an_answer.Goals as goal

pub returns : goal.returns
returns c = has_answer (record {
  tree_or_fault = c.tree_or_fault.ensures;
  instance_or_fault = c.instance_or_fault.ensures;
  named = c.first_faults_are_named.ensures;
  list = c.each_instance_has_its_list.ensures;
  there = c.designs_of_texts_keep_their_rules.ensures.there;
  rules = c.designs_of_texts_keep_their_rules.ensures.rules;
  scenario_or_fault = c.scenario_or_fault.ensures;
  loose = c.events_are_loose.ensures;
  few = c.events_are_few.ensures;
  lines = c.traces_are_few.ensures;
  pairs = c.pairs_can_be_fused.ensures;
  fused = c.one_report.ensures.exists;
  layout = c.layout_is_one.ensures.exists;
  suit = c.scenarios_suit.ensures;
  ends = c.each_run_ends.ensures.ends;
  ends_named = c.each_run_ends.ensures.named;
})
