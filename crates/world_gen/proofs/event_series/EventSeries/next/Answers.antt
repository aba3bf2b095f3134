use Rattle.std.proofs.Common.{arith}
use Rattle.world_gen.proofs.NextSeriesEvents.{next_is, next_none}
use Rattle.world_gen.proofs.event_series.EventSeries.next.Goals as goal

pub returns-then-number-from-clause-value : goal.returns-then-number-from-clause-value
returns-then-number-from-clause-value c =
    next_is c.args.self.now c.args.from c.saturating_sub.result c.div_ceil-number.result c.requires.rises
    c.saturating_sub.ensures
    c.div_ceil-number.ensures (omega arith)

pub returns-else-number-from-clause-value : goal.returns-else-number-from-clause-value
returns-else-number-from-clause-value c =
    next_none c.args.self.now c.args.from c.saturating_sub.result c.div_ceil-number.result c.requires.rises
    c.saturating_sub.ensures
    c.div_ceil-number.ensures (omega arith)
