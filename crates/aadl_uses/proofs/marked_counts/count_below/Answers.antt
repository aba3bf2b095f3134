use Rattle.std.proofs.Common.{◌+◌, ◌∙◌, ap, arith, get_or, length, min, None}
use Rattle.aadl_uses.proofs.MarkedPathCounts.{counted_own, counted_more, counted_all, below_is}
use Rattle.aadl_uses.proofs.marked_counts.count_below.Goals as goal

pub loop-target-init : goal.loop-target-init
loop-target-init c =
    counted_own c.args.limit c.args.graph.now c.args.marks.now c.args.number c.own_count-count.result
    c.own_count-count.ensures

pub loop-target-preserved : goal.loop-target-preserved
loop-target-preserved c =
    let ts = c.targets-target-items.result.now in
    let i = c.loop-target.target-index in
    counted_more c.args.limit c.args.graph.now c.args.marks.now c.args.number i c.args.counts.now (get_or ts i None)
    c.loop-target.count c.add_up_to-count.result
    (below_is c.args.graph.now c.args.number i ts c.targets-target-items.ensures c.loop-target-test.true)
    (λ m e. c.requires i m e) c.loop-target.invariant
    (c.add_up_to-count.ensures ∙ ap (λ k. min c.args.limit (c.loop-target.count + k)) c.count_of.ensures)

pub returns : goal.returns
returns c =
    let size = ap length c.targets-target-items.ensures in
    counted_all c.args.limit c.args.graph.now c.args.marks.now c.args.number c.loop-target.target-index
    c.loop-target.count (omega (arith, size, c.loop-target-test.false)) c.loop-target.invariant
