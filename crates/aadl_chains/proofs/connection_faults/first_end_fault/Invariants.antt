use Rattle.std.proofs.Common.{None}
use Rattle.aadl_tree.specs.proof.PackageViews.{placed}
use Rattle.aadl_chains.specs.proof.FoundChainFaults.{FindsAll}
use Rattle.aadl_chains.proofs.FoundChainFaults.{FoundAmong}
use Rattle.aadl_chains.proofs.connection_faults.first_end_fault.Given as goal

abbrev pub invariant-loop-at : goal.invariant-loop-at
invariant-loop-at l =
    FindsAll (FoundAmong (placed l.wires.uses.names.tree.now) l.ways.root l.used.keys l.at) None l.finder
