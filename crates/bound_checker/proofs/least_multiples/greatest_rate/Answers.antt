use Rattle.std.proofs.Common.{◌≡◌, sym, subst, rules}
use Rattle.bound_checker.specs.proof.OverflowLimits.{IsRate}
use Rattle.bound_checker.specs.LeastMultiples.{greatest_rate}
use Rattle.bound_checker.proofs.RateMultiples.{greatest-IsRate}
use Rattle.bound_checker.proofs.least_multiples.greatest_rate.Goals as goal

pub returns-clause-rate : goal.returns-clause-rate
returns-clause-rate c =
    let e : c.fold.result ≡ greatest_rate c.args.rates.now = search rules in
    subst IsRate (sym e) (greatest-IsRate c.args.rates.now c.requires)
