use Rattle.std.proofs.Common.{◌≡◌, drop}
use Rattle.trace_audit.proofs.DoneNodesAndRounds.{are_done}
use Rattle.trace_audit.proofs.end_rules.all_done.Given as goal

-- all nodes are done if the remaining nodes are
abbrev pub invariant-loop-node : goal.invariant-loop-node
invariant-loop-node l = are_done (drop l.node l.bus.state.nodes) ≡ are_done l.bus.state.nodes
