use Rattle.aadl_tree.specs.proof.PackageViews.{placed}
use Rattle.aadl_chains.specs.proof.LimitedCounts.{IsNumber}
use Rattle.aadl_chains.specs.proof.EnteredThreadPorts.{FromThread, AmongFirst}
use Rattle.aadl_chains.proofs.link_limit.links_carried.Given as goal

-- the links of the connections so far
abbrev pub invariant-loop-at : goal.invariant-loop-at
invariant-loop-at l =
    IsNumber l.limit (AmongFirst (FromThread (placed l.wires.uses.names.tree.now) l.number) l.at) l.count
