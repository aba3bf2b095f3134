use Rattle.std.proofs.Common.{◌≡◌, ◌∙◌, ap, arith, get_or, length, slice_get, sym, Some, None, List}
use Rattle.std.proofs.lemmas.Option.{slice_get-get_or}
use Rattle.aadl_tree.specs.proof.PackageViews.{placed}
use Rattle.aadl_uses.specs.declared.connections_by_target.ConnectionPorts.{ConnectionPorts}
use Rattle.aadl_uses.specs.PortsOfConnections.{connection_ports_at}
use Rattle.aadl_chains.proofs.EnteredPortCountTables.{none_front, front_more, front_added}
use Rattle.aadl_chains.proofs.entered_port_counts.PortCounts.add_all.Goals as goal

pub add-requires-clause-wire : goal.add-requires-clause-wire
add-requires-clause-wire c =
    let items = c.wires-wire-items.result.now in
    ap (λ (l : List ConnectionPorts). slice_get l c.loop-at.at) (sym c.wires-wire-items.ensures)
    ∙ slice_get-get_or items c.loop-at.at (record { source = None; target = None }) (omega arith)

pub loop-at-init : goal.loop-at-init
loop-at-init c = none_front (placed c.args.wires.now.uses.names.tree.now) c.args.limit c.args.number c.args.self.now

pub loop-at-preserved : goal.loop-at-preserved
loop-at-preserved c =
    let tree = placed c.args.wires.now.uses.names.tree.now in
    let n = c.args.number in
    let i = c.loop-at.at in
    let items = c.wires-wire-items.result.now in
    let wire : ConnectionPorts = get_or items i (record { source = None; target = None }) in
    let is : slice_get (connection_ports_at tree n) i ≡ Some wire =
    ap (λ (l : List ConnectionPorts). slice_get l i) (sym c.wires-wire-items.ensures)
    ∙ slice_get-get_or items i (record { source = None; target = None }) (omega arith) in
    front_more tree c.args.limit n i wire c.args.self.now c.loop-at.self c.add.new.self is c.in_ok-add.ensures
    c.loop-at.invariant

pub returns : goal.returns
returns c =
    let same = ap (λ (l : List ConnectionPorts). length l) c.wires-wire-items.ensures in
    front_added (placed c.args.wires.now.uses.names.tree.now) c.args.limit c.args.number c.loop-at.at c.args.self.now
    c.loop-at.self (omega arith) c.loop-at.invariant
