use Rattle.aadl_tree.specs.proof.PackageViews.{placed}
use Rattle.aadl_chains.proofs.EnteredPortCountTables.{FrontTable}
use Rattle.aadl_chains.proofs.entered_port_counts.PortCounts.of.Given as goal

abbrev pub invariant-loop-at : goal.invariant-loop-at
invariant-loop-at l = FrontTable (placed l.wires.uses.names.tree.now) l.limit l.order.keys l.at l.takes
