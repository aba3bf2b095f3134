use Rattle.aadl_tree.specs.proof.PackageViews.{placed}
use Rattle.aadl_chains.proofs.EnteredPortCountTables.{FrontCounted}
use Rattle.aadl_chains.proofs.entered_port_counts.PortCounts.add_all.Given as goal

abbrev pub invariant-loop-at : goal.invariant-loop-at
invariant-loop-at l = FrontCounted (placed l.wires.uses.names.tree.now) l.limit l.number l.at l.initial.self l.self
