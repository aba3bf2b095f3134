use Rattle.std.proofs.Common.{◌≡◌, drop}
use Rattle.trace_audit.proofs.DoneNodesAndRounds.{least_of}
use Rattle.bus_machine.specs.BusStates.{finished_by_all}
use Rattle.trace_audit.proofs.end_rules.finished_by_all.Given as goal

-- the minimum of the rounds so far and of the rounds of the remaining nodes
abbrev pub invariant-loop-node : goal.invariant-loop-node
invariant-loop-node l = least_of l.rounds (drop l.node l.bus.state.nodes) ≡ finished_by_all l.bus.run l.bus.state
