use Rattle.std.proofs.Common.{◌∙◌, ap, arith, length, slice_get, sym, None, List}
use Rattle.std.proofs.lemmas.Option.{slice_get-get_or}
use Rattle.aadl_tree.specs.proof.PackageViews.{placed}
use Rattle.aadl_uses.specs.declared.connections_by_target.ConnectionPorts.{ConnectionPorts}
use Rattle.aadl_chains.proofs.LinkLimits.{none_carried, carried_more, carried_all}
use Rattle.aadl_chains.proofs.link_limit.links_carried.Goals as goal

pub carried-more-requires-clause-wire : goal.carried-more-requires-clause-wire
carried-more-requires-clause-wire c =
    let items = c.wires-wire-items.result.now in
    ap (λ (l : List ConnectionPorts). slice_get l c.loop-at.at) (sym c.wires-wire-items.ensures)
    ∙ slice_get-get_or items c.loop-at.at (record { source = None; target = None }) (omega arith)

pub loop-at-init : goal.loop-at-init
loop-at-init c = none_carried (placed c.args.wires.now.uses.names.tree.now) c.args.limit c.args.number

pub loop-at-preserved : goal.loop-at-preserved
loop-at-preserved c =
    carried_more (placed c.args.wires.now.uses.names.tree.now) c.args.limit c.args.number c.loop-at.at c.loop-at.count
    c.carried-more.result c.add_up_to-count.result
    c.loop-at.invariant c.carried-more.ensures c.add_up_to-count.ensures

pub returns : goal.returns
returns c =
    let same = ap (λ (l : List ConnectionPorts). length l) c.wires-wire-items.ensures in
    carried_all (placed c.args.wires.now.uses.names.tree.now) c.args.limit c.args.number c.loop-at.at c.loop-at.count
    (omega arith) c.loop-at.invariant
