use Rattle.aadl_tree.specs.proof.PackageViews.{placed}
use Rattle.aadl_instance.specs.proof.ChainsSoFar.{paths_of, AreTapsTo}
use Rattle.aadl_instance.proofs.chain_search.taps_of.Given as goal

-- the taps to the ports so far
abbrev pub invariant-loop-port : goal.invariant-loop-port
invariant-loop-port l =
    AreTapsTo (placed l.network.wires.now.uses.names.tree.now) l.network.root (paths_of l.network.threads.now)
    l.port l.taps
