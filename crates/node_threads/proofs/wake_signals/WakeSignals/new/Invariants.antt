use Rattle.std.proofs.Common.{◌≡◌, vec_len}
use Rattle.node_threads.proofs.wake_signals.WakeSignals.new.Given as goal

-- a signal for each node so far
abbrev pub invariant-loop-node : goal.invariant-loop-node
invariant-loop-node l = vec_len l.nodes ≡ l._node
