use Rattle.std.proofs.Common.{arith}
use Rattle.std.proofs.lemmas.Grind.{common_steps}
use Rattle.std.proofs.lemmas.Result.{err_from_is_err_and}
use Rattle.scenario_values.specs.FieldValues.{short_list}
use Rattle.scenario_values.proofs.json_values.short_list.Goals as goal

pub returns-in_err-list : goal.returns-in_err-list
unfolding short_list
returns-in_err-list c =
    let p = err_from_is_err_and c.from_residual.result c.from_residual.ensures.1 in
    rw (p.1, p.2) (λ never. grind (arith, common_steps, c.in_err-list.ensures never))
