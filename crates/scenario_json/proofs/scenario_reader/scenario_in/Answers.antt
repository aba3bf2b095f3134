use Rattle.serde_json.specs.View.{view}
use Rattle.scenario_json.proofs.ScenarioValidity.{answer_keeps}
use Rattle.scenario_json.proofs.scenario_reader.scenario_in.Goals as goal

pub returns-clause-kept : goal.returns-clause-kept
returns-clause-kept c =
    answer_keeps (view c.args.value.now) c.in_ok-names.names c.args.design.now c.args.command.now c.fields_in.result
    c.in_ok-names.ensures.value c.new.ensures.rules c.fields_in.ensures
