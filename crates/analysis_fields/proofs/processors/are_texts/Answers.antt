use Rattle.std.proofs.Common.{arith}
use Rattle.std.proofs.lemmas.Grind.{common_steps}
use Rattle.analysis_fields.specs.Processors.{is_text}
use Rattle.scenario_values.proofs.JsonLists.{all_turn, all_fails, all_done}
use Rattle.analysis_fields.proofs.processors.are_texts.Goals as goal

pub loop-value-preserved : goal.loop-value-preserved
loop-value-preserved c =
    all_turn is_text c.args.values.now c.loop-value.value-index c.value-item.result _ c.loop-value-test.true
    c.value-item.is (grind (arith, common_steps)) c.loop-value.invariant

pub returns-then-not-is_string : goal.returns-then-not-is_string
returns-then-not-is_string c =
    all_fails is_text c.args.values.now c.loop-value.value-index c.value-item.result _ c.loop-value-test.true
    c.value-item.is (grind (arith, common_steps)) c.loop-value.invariant

pub returns : goal.returns
returns c = all_done is_text c.args.values.now c.loop-value.value-index _ c.loop-value-test.false c.loop-value.invariant
