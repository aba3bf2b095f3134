use Rattle.node_threads.specs.proof.Sleepers.{Rouses}
use Rattle.node_threads.proofs.sleepers.Sleepers.wake_targets.Given as goal

-- some are roused
abbrev pub invariant-loop-link : goal.invariant-loop-link
invariant-loop-link l = Rouses l.fn.self l.self
