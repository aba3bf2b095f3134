use Rattle.run_laws.proofs.JournalStartsAndSends.{rounds_are_shown}
use Rattle.run_laws.proofs.LinkTiming.{all_links_timed}
use Rattle.run_laws.proofs.laws.links_are_timed.Goals as goal

pub returns : goal.returns
returns c =
    record {
      shown = λ run clocks journal s rules runs node. rounds_are_shown run clocks journal s node rules runs;
      timed = all_links_timed;
    }
