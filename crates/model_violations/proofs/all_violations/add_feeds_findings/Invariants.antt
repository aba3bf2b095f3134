use Rattle.std.proofs.Common.{◌≡◌, ◌++◌, take}
use Rattle.std.specs.Prelude.{flat_map}
use Rattle.model_violations.specs.ChainFindings.{feed_findings}
use Rattle.model_violations.specs.proof.ThreadRates.{tree_of}
use Rattle.model_violations.proofs.all_violations.add_feeds_findings.Given as goal

abbrev pub invariant-loop-feed : goal.invariant-loop-feed
invariant-loop-feed l =
    l.found ≡ l.fn.found ++ flat_map (feed_findings (tree_of l.rated) l.rated.threads.now l.rated.rates.now)
    (take l.feed-index l.feeds)
