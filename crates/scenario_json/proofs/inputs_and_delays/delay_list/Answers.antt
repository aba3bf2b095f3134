use Rattle.std.proofs.Common.{arith}
use Rattle.std.proofs.lemmas.Grind.{common_steps}
use Rattle.std.proofs.lemmas.Result.{err_from_is_err_and}
use Rattle.scenario_json.specs.InputsAndDelays.{delay_list}
use Rattle.scenario_json.proofs.inputs_and_delays.delay_list.Goals as goal

pub returns-in_err-delay : goal.returns-in_err-delay
unfolding delay_list
returns-in_err-delay c =
    let p = err_from_is_err_and c.from_residual-in_err-delay.result c.from_residual-in_err-delay.ensures.1 in
    rw (p.1, p.2) (λ never. grind (arith, common_steps, c.in_err-delay.ensures.value never))
