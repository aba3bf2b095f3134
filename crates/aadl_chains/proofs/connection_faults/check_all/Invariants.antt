use Rattle.aadl_tree.specs.proof.PackageViews.{placed}
use Rattle.aadl_chains.specs.proof.FoundChainFaults.{FindsAll}
use Rattle.aadl_chains.proofs.FoundChainFaults.{FoundBelow}
use Rattle.aadl_chains.proofs.connection_faults.check_all.Given as goal

abbrev pub invariant-loop-at : goal.invariant-loop-at
invariant-loop-at l =
    FindsAll (FoundBelow (placed l.wires.uses.names.tree.now) l.ways.root l.number l.at) l.initial.finder l.finder
