use Rattle.std.proofs.Common.{◌≡◌, ◌∙◌, ap, arith, get_or, length, slice_get, sym, Some, None, List}
use Rattle.std.proofs.lemmas.Option.{slice_get-get_or}
use Rattle.list_lemmas.proofs.ElementPositions.{Contains-from_slice_get}
use Rattle.aadl_tree.specs.proof.PackageViews.{placed}
use Rattle.aadl_uses.specs.declared.connections_by_target.ConnectionPorts.{ConnectionPorts}
use Rattle.aadl_uses.specs.PortsOfConnections.{connection_ports_at}
use Rattle.aadl_chains.proofs.JoinedInsideByConnection.{none_yet, one_more, all_joined}
use Rattle.aadl_chains.proofs.ports_joined_inside.join_each.Goals as goal

pub loop-wire-init : goal.loop-wire-init
loop-wire-init c =
    none_yet (placed c.args.wires.now.uses.names.tree.now) c.args.direction c.args.number c.args.ports.now

pub loop-wire-preserved : goal.loop-wire-preserved
loop-wire-preserved c =
    let tree = placed c.args.wires.now.uses.names.tree.now in
    let n = c.args.number in
    let i = c.loop-wire.wire-index in
    let items = c.wires-wire-items.result.now in
    let wire : ConnectionPorts = get_or items i (record { source = None; target = None }) in
    let is : slice_get (connection_ports_at tree n) i ≡ Some wire =
    ap (λ (l : List ConnectionPorts). slice_get l i) (sym c.wires-wire-items.ensures)
    ∙ slice_get-get_or items i (record { source = None; target = None }) c.loop-wire-test.true in
    one_more tree c.args.direction n i wire c.args.ports.now c.loop-wire.ports c.join.new.ports c.requires is
    (Contains-from_slice_get (connection_ports_at tree n) i wire is)
    c.in_ok-join.ensures c.loop-wire.invariant

pub returns : goal.returns
returns c =
    let tree = placed c.args.wires.now.uses.names.tree.now in
    let same = ap (λ (l : List ConnectionPorts). length l) c.wires-wire-items.ensures in
    all_joined tree c.args.direction c.args.number c.loop-wire.wire-index c.args.ports.now c.loop-wire.ports
    (omega arith) c.loop-wire.invariant
