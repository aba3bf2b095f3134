use Rattle.aadl_tree.specs.proof.PackageViews.{placed}
use Rattle.aadl_chains.specs.proof.LimitedCounts.{IsNumber}
use Rattle.aadl_chains.specs.proof.EnteredThreadPorts.{IsLinkBelow, AmongFirst}
use Rattle.aadl_chains.proofs.link_limit.links_deeper.Given as goal

-- the links below the subcomponents so far
abbrev pub invariant-loop-target : goal.invariant-loop-target
invariant-loop-target l =
    IsNumber l.limit (AmongFirst (IsLinkBelow (placed l.wires.uses.names.tree.now) l.number) l.target-index) l.count
