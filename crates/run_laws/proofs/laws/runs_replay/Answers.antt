use Rattle.run_laws.proofs.NodePicksAndRunReplay.{runs_replay, runs_agree}
use Rattle.run_laws.proofs.laws.runs_replay.Goals as goal

pub returns : goal.returns
returns c =
    λ run clocks journal s rules runs.
    (runs_replay run clocks journal s runs, runs_agree run clocks journal s rules runs)
