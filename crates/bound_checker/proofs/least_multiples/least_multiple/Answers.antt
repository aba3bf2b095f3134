use Rattle.bound_checker.proofs.RateMultiples.{next_multiple-fits, first_of_call, is_least_multiple, has_no_multiple}
use Rattle.bound_checker.proofs.least_multiples.least_multiple.Goals as goal

pub next_multiple_of-period-requires-clause-fits : goal.next_multiple_of-period-requires-clause-fits
next_multiple_of-period-requires-clause-fits c =
    next_multiple-fits c.args.gamma.now c.greatest_rate.result _ _ c.requires.gamma c.greatest_rate.ensures.rate.at_most
    c.least_period-least.ensures c.common_multiple.ensures.some_time c.common_multiple.ensures.at_most

pub returns-then-period-le-HOUR : goal.returns-then-period-le-HOUR
returns-then-period-le-HOUR c =
    let period = c.next_multiple_of-period.ensures in
    is_least_multiple _ _ _ _
    (first_of_call _ _ _ _ _ _ c.common_multiple.ensures c.greatest_rate.ensures.value c.least_period-least.ensures
    period.lower_bound period.upper_bound period.multiple)
    c.if-period-le-HOUR.true

pub returns-else-period-le-HOUR : goal.returns-else-period-le-HOUR
returns-else-period-le-HOUR c =
    let period = c.next_multiple_of-period.ensures in
    has_no_multiple _ _ _ _
    (first_of_call _ _ _ _ _ _ c.common_multiple.ensures c.greatest_rate.ensures.value c.least_period-least.ensures
    period.lower_bound period.upper_bound period.multiple)
    c.if-period-le-HOUR.false
