use Rattle.std.proofs.Common.{arith}
use Rattle.pals_model.specs.RoundTexts.{line_end}
use Rattle.pals_report.proofs.TextPrefixes.{begins_on_err}
use Rattle.pals_report.specs.CheckReports.{feed_line}
use Rattle.pals_report.proofs.LinePerItem.{lines_turn, lines_all}
use Rattle.pals_report.proofs.design_lines.add_feeds.Goals as goal

pub returns-in_err-add_feed-clause-err : goal.returns-in_err-add_feed-clause-err
returns-in_err-add_feed-clause-err c =
    begins_on_err c.from_residual.result _ _ _ _ c.loop-feed.invariant c.in_err-add_feed.ensures.err

pub loop-feed-preserved : goal.loop-feed-preserved
loop-feed-preserved c =
    lines_turn line_end (feed_line c.args.design.now) c.args.feeds.now c.loop-feed.feed-index c.feed-item.result _ _ _
    c.loop-feed-test.true c.feed-item.is c.loop-feed.invariant c.in_ok-add_feed.ensures.ok

pub returns-clause-ok : goal.returns-clause-ok
returns-clause-ok c =
    lines_all line_end (feed_line c.args.design.now) c.args.feeds.now c.loop-feed.feed-index _ _ (omega arith)
    c.loop-feed.invariant
