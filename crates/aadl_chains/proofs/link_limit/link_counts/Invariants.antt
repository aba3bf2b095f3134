use Rattle.aadl_tree.specs.proof.PackageViews.{placed}
use Rattle.aadl_uses.specs.proof.PackageContainment.{containment}
use Rattle.aadl_uses.proofs.ContainmentOrderValues.{FrontOf}
use Rattle.aadl_chains.specs.proof.LimitedCounts.{IsNumber}
use Rattle.aadl_chains.specs.proof.EnteredThreadPorts.{EndsLink}
use Rattle.aadl_chains.proofs.link_limit.link_counts.Given as goal

abbrev pub invariant-loop-at : goal.invariant-loop-at
invariant-loop-at l = FrontOf (λ n. IsNumber l.limit (EndsLink (placed l.wires.uses.names.tree.now) n)) 0 (containment
    (placed l.wires.uses.names.tree.now)) l.order.keys l.at
    l.counts.items
