use Rattle.std.proofs.Common.{◌+◌, ◌∙◌, ap, arith, length, min}
use Rattle.aadl_tree.specs.proof.PackageViews.{placed}
use Rattle.aadl_chains.proofs.LinkLimits.{none_deeper, deeper_more, deeper_all}
use Rattle.aadl_chains.proofs.link_limit.links_deeper.Goals as goal

pub loop-target-init : goal.loop-target-init
loop-target-init c = none_deeper (placed c.args.wires.now.uses.names.tree.now) c.args.limit c.args.number

pub loop-target-preserved : goal.loop-target-preserved
loop-target-preserved c =
    deeper_more (placed c.args.wires.now.uses.names.tree.now) c.args.limit c.args.number c.loop-target.target-index
    c.loop-target.count c.add_up_to-count.result
    c.args.counts.now c.targets-target-items.result.now c.targets-target-items.ensures c.loop-target-test.true
    c.requires c.loop-target.invariant
    (c.add_up_to-count.ensures ∙ ap (λ n. min c.args.limit (c.loop-target.count + n)) c.count_of.ensures)

pub returns : goal.returns
returns c =
    let size = ap length c.targets-target-items.ensures in
    deeper_all (placed c.args.wires.now.uses.names.tree.now) c.args.limit c.args.number c.loop-target.target-index
    c.loop-target.count
    (omega (arith, size, c.loop-target-test.false)) c.loop-target.invariant
