use Rattle.aadl_tree.specs.proof.PackageViews.{placed}
use Rattle.aadl_instance.specs.proof.ChainsSoFar.{paths_of, AreInto}
use Rattle.aadl_instance.proofs.chain_search.add_thread.Given as goal

-- the chains into the ports so far
abbrev pub invariant-loop-port : goal.invariant-loop-port
invariant-loop-port l =
    AreInto (placed l.network.wires.now.uses.names.tree.now) l.network.root (paths_of l.network.threads.now)
    l.fn.number.0 0 l.initial.incoming
    → AreInto (placed l.network.wires.now.uses.names.tree.now) l.network.root (paths_of l.network.threads.now)
    l.fn.number.0 l.port l.incoming
