use Rattle.std.proofs.Common.{◌-◌, ◌∙◌, arith}
use Rattle.std.proofs.lemmas.Grind.{common_steps}
use Rattle.serde_json.specs.View.{view}
use Rattle.analysis_fields.specs.Properties.{is_shallow}
use Rattle.analysis_fields.proofs.FormulaLevels.{shallow_by, shallow_none}
use Rattle.scenario_values.proofs.JsonLists.{all_fails, all_done}
use Rattle.analysis_fields.proofs.formulas.+is_shallow.Goals as goal

pub returns-then-levels-eq0 : goal.returns-then-levels-eq0
returns-then-levels-eq0 t c = shallow_none c.args.levels (view c.args.value.now) (omega arith)

pub returns-then-not-is_shallow : goal.returns-then-not-is_shallow
returns-then-not-is_shallow t c =
    all_fails (is_shallow (c.args.levels - 1)) c.parts_of-parts.result.now c.loop-part.part-index c.part-item.result _
    c.loop-part-test.true c.part-item.is (grind (arith, common_steps)) c.loop-part.invariant
    ∙ shallow_by c.args.levels (view c.args.value.now) c.parts_of-parts.result.now (omega arith)
    c.parts_of-parts.ensures

pub returns : goal.returns
returns t c =
    all_done (is_shallow (c.args.levels - 1)) c.parts_of-parts.result.now c.loop-part.part-index _
    c.loop-part-test.false c.loop-part.invariant
    ∙ shallow_by c.args.levels (view c.args.value.now) c.parts_of-parts.result.now (omega arith)
    c.parts_of-parts.ensures
