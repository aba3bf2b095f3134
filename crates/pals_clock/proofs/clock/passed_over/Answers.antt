use Rattle.std.proofs.Common.{◌<◌, ◌≤◌, rules, tests}
use Rattle.std.proofs.lemmas.Iterator.{YieldsList-from_slice, IsFirst-from_position}
use Rattle.pals_clock.proofs.RemainingReadingsAndPicks.{passed_first}
use Rattle.pals_clock.proofs.clock.passed_over.Goals as goal

pub returns : goal.returns
returns c =
    passed_first c.position.result c.args.readings.now c.args.target
    (IsFirst-from_position _ _ c.position.result (λ r. c.args.target ≤ r) (λ r. r < c.args.target)
    c.position.ensures.ran (YieldsList-from_slice _ c.iter.ensures.rest) (λ x q k. search (rules, tests))
    (λ x q k. search (rules, tests)))
