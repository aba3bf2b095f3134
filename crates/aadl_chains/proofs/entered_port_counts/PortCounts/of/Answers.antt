use Rattle.std.proofs.Common.{◌+◌, arith, subst, sym}
use Rattle.aadl_tree.specs.proof.PackageViews.{placed}
use Rattle.aadl_chains.proofs.EnteredPortCountTables.{FrontTable, table_more, table_past, table_all}
use Rattle.aadl_chains.proofs.entered_port_counts.PortCounts.of.Goals.{in-Some+in_ok-add_all, in_default}
use Rattle.aadl_chains.proofs.entered_port_counts.PortCounts.of.Goals as goal

pub loop-at-preserved : goal.loop-at-preserved
loop-at-preserved c =
    let tree = placed c.args.wires.now.uses.names.tree.now in
    let limit = c.args.limit in
    let keys = c.args.order.now.keys in
    let at = c.loop-at.at in
    elim c.match-get_index.branch [
      | in-Some+in_ok-add_all w ↦
          subst (FrontTable tree limit keys (at + 1)) (sym w.takes-is)
          (table_more tree limit keys c.requires.order.sequence at _ c.loop-at.takes _ (sym w.in-Some.ensures.key)
          w.in_ok-add_all.ensures c.loop-at.invariant)
      | in_default w ↦
          subst (FrontTable tree limit keys (at + 1)) (sym w.takes-is)
          (table_past tree limit keys c.requires.order.sequence at c.loop-at.takes (sym w.in_default.ensures.key)
          c.loop-at.invariant)
    ]

pub returns : goal.returns
returns c =
    table_all (placed c.args.wires.now.uses.names.tree.now) c.args.limit c.args.order.now.keys c.requires.order.sequence
    c.loop-at.at c.loop-at.takes (omega arith)
    c.loop-at.invariant
