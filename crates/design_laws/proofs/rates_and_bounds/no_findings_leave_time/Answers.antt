use Rattle.std.proofs.Common.{arith}
use Rattle.design_laws.proofs.BoundsAndRates.{leaves_time, least_is_some}
use Rattle.design_laws.proofs.rates_and_bounds.no_findings_leave_time.Goals as goal

pub returns : goal.returns
returns c = λ at t g k gamma none. let enough = leaves_time at t g k none in let some = least_is_some g k gamma in
    (enough, omega (arith, enough, some))
