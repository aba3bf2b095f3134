use Rattle.aadl_tree.specs.proof.PackageViews.{placed}
use Rattle.aadl_instance.specs.proof.ChainsSoFar.{paths_of, AreInto}
use Rattle.aadl_instance.proofs.chain_search.incoming_of.Given as goal

-- the chains into the threads so far
abbrev pub invariant-loop-number : goal.invariant-loop-number
invariant-loop-number l =
    AreInto (placed l.network.wires.now.uses.names.tree.now) l.network.root (paths_of l.network.threads.now) l.number
    0 l.incoming
