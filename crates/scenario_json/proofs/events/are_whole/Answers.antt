use Rattle.std.proofs.Common.{arith}
use Rattle.std.proofs.lemmas.Grind.{common_steps}
use Rattle.scenario_values.specs.FieldValues.{is_whole}
use Rattle.scenario_values.proofs.JsonLists.{all_turn, all_fails, all_done}
use Rattle.scenario_json.proofs.events.are_whole.Goals as goal

pub loop-value-preserved : goal.loop-value-preserved
loop-value-preserved c =
    all_turn is_whole c.args.values.now c.loop-value.value-index c.value-item.result _ c.loop-value-test.true
    c.value-item.is (grind (arith, common_steps)) c.loop-value.invariant

pub returns-then-not-is_whole : goal.returns-then-not-is_whole
returns-then-not-is_whole c =
    all_fails is_whole c.args.values.now c.loop-value.value-index c.value-item.result _ c.loop-value-test.true
    c.value-item.is (grind (arith, common_steps)) c.loop-value.invariant

pub returns : goal.returns
returns c =
    all_done is_whole c.args.values.now c.loop-value.value-index _ c.loop-value-test.false c.loop-value.invariant
