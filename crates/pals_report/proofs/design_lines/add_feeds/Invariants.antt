use Rattle.std.proofs.Common.{◌≡◌, ◌++◌, map, take}
use Rattle.pals_model.specs.RoundTexts.{text_of}
use Rattle.pals_report.specs.CheckReports.{feed_line}
use Rattle.pals_report.proofs.design_lines.add_feeds.Given as goal

-- the lines so far
abbrev pub invariant-loop-feed : goal.invariant-loop-feed
invariant-loop-feed l = l.out.items ≡ l.fn.out.items ++ text_of (map (feed_line l.design) (take l.feed-index l.feeds))
