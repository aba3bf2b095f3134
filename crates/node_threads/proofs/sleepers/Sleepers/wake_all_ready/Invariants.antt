use Rattle.node_threads.specs.proof.Sleepers.{Rouses}
use Rattle.node_threads.proofs.sleepers.Sleepers.wake_all_ready.Given as goal

-- some are roused
abbrev pub invariant-loop-number : goal.invariant-loop-number
invariant-loop-number l = Rouses l.fn.self l.self
