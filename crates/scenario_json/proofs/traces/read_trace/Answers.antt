use Rattle.std.proofs.Common.{arith}
use Rattle.std.proofs.lemmas.Grind.{common_steps}
use Rattle.std.proofs.lemmas.Result.{err_from_is_err_and}
use Rattle.scenario_json.specs.Traces.{trace_in}
use Rattle.scenario_json.proofs.traces.read_trace.Goals as goal

pub returns-in_err-line : goal.returns-in_err-line
unfolding trace_in
returns-in_err-line c =
    let p = err_from_is_err_and c.from_residual-in_err-line.result c.from_residual-in_err-line.ensures.1 in
    rw (p.1, p.2) (λ never. grind (arith, common_steps, c.in_err-line.ensures never))
