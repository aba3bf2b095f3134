use Rattle.std.proofs.Common.{sym, ◌∙◌}
use Rattle.world_gen.proofs.NextSeriesEvents.{at_moment, after_moment, over_at}
use Rattle.world_gen.proofs.event_series.EventSeries.number_at.Goals as goal

pub returns-in_err-number-clause-value : goal.returns-in_err-number-clause-value
returns-in_err-number-clause-value c =
    c.from_residual.ensures ∙ sym (over_at c.args.self.now c.args.moment (sym c.in_err-number.ensures.value))

pub returns-then-time-moment-clause-value : goal.returns-then-time-moment-clause-value
returns-then-time-moment-clause-value c =
    sym (at_moment c.args.self.now c.args.moment c.in_ok-number.number (sym c.in_ok-number.ensures.value)
    (sym c.time.ensures ∙ c.if-time-moment.true))

pub returns-else-time-moment-clause-value : goal.returns-else-time-moment-clause-value
returns-else-time-moment-clause-value c =
    sym (after_moment c.args.self.now c.args.moment c.in_ok-number.number (sym c.in_ok-number.ensures.value)
    (λ same. c.if-time-moment.false (c.time.ensures ∙ same)))
