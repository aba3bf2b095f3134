use Rattle.std.proofs.Common.{◌∙◌, ap, arith, length, slice_get, sym, None, List}
use Rattle.std.proofs.lemmas.Option.{slice_get-get_or}
use Rattle.aadl_tree.specs.proof.PackageViews.{placed}
use Rattle.aadl_uses.specs.declared.connections_by_target.ConnectionPorts.{ConnectionPorts}
use Rattle.aadl_chains.proofs.FoundChainFaults.{found_none, found_more, found_all}
use Rattle.aadl_chains.proofs.connection_faults.check_all.Goals as goal

pub check-requires-clause-wire : goal.check-requires-clause-wire
check-requires-clause-wire c =
    let items = c.wires-wire-items.result.now in
    ap (λ (l : List ConnectionPorts). slice_get l c.loop-at.at) (sym c.wires-wire-items.ensures)
    ∙ slice_get-get_or items c.loop-at.at (record { source = None; target = None }) (omega arith)

pub loop-at-init : goal.loop-at-init
loop-at-init c =
    found_none (placed c.args.wires.now.uses.names.tree.now) c.args.ways.now.root c.args.number c.args.finder.now

pub loop-at-preserved : goal.loop-at-preserved
loop-at-preserved c =
    found_more (placed c.args.wires.now.uses.names.tree.now) c.args.ways.now.root c.args.number c.loop-at.at
    c.args.finder.now c.loop-at.finder c.check.new.finder
    c.loop-at.invariant
    c.in_ok-check.ensures

pub returns : goal.returns
returns c =
    let tree = placed c.args.wires.now.uses.names.tree.now in
    let same = ap (λ (l : List ConnectionPorts). length l) c.wires-wire-items.ensures in
    found_all tree c.args.ways.now.root c.args.number c.loop-at.at c.args.finder.now c.loop-at.finder (omega arith)
    c.loop-at.invariant
