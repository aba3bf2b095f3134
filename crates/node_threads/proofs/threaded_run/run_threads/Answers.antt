use Rattle.node_threads.proofs.RunOutcomes.{run_outcome}
use Rattle.node_threads.proofs.threaded_run.run_threads.Goals as goal

pub returns : goal.returns
returns g c =
    run_outcome c.args.bus c.args.clocks c.in_ok-course.kept c.end_run.result c.in_ok-course.ensures.1 c.end_run.ensures
