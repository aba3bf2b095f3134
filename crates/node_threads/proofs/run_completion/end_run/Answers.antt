use Rattle.node_threads.proofs.RunOutcomes.{run_outcome}
use Rattle.node_threads.proofs.run_completion.end_run.Goals as goal

pub returns : goal.returns
returns g c =
    run_outcome c.args.kept.bus c.args.kept.clocks c.held_or_kept.result c.driven.result c.held_or_kept.ensures
    c.driven.ensures
