use Rattle.std.proofs.Common.{◌+◌, ◌∙◌, arith, subst, sym}
use Rattle.list_lemmas.proofs.ElementPositions.{Contains-from_slice_get}
use Rattle.aadl_uses.specs.proof.MarkedPathCounts.{Counted}
use Rattle.aadl_uses.proofs.ContainmentOrderValues.{FrontOf, no_front, front_more, front_past, front_all}
use Rattle.aadl_uses.proofs.marked_counts.counts_below.Goals.{in-Some, in_default}
use Rattle.aadl_uses.proofs.marked_counts.counts_below.Goals as goal

pub loop-at-init : goal.loop-at-init
loop-at-init c =
    no_front (Counted c.args.limit c.args.graph.now c.args.marks.now) 0 c.args.graph.now c.args.order.now.keys
    c.in_ok-counts.counts.items (c.in_ok-counts.ensures ∙ c.len.ensures)

pub put-requires : goal.put-requires
put-requires c =
    let least =
    c.requires.sequence.declared c.in-Some.number.now
    (Contains-from_slice_get c.args.order.now.keys c.loop-at.at c.in-Some.number.now (sym c.in-Some.ensures.key)) in
    omega (arith, least, c.loop-at.invariant.size)

pub loop-at-preserved : goal.loop-at-preserved
loop-at-preserved c =
    let g = c.args.graph.now in
    let right = Counted c.args.limit g c.args.marks.now in
    let keys = c.args.order.now.keys in
    let at = c.loop-at.at in
    let counts = c.loop-at.counts.items in
    elim c.match-get_index.branch [
      | in-Some w ↦
          subst (λ v. FrontOf right 0 g keys (at + 1) v.items) (sym w.counts-is)
          (subst (FrontOf right 0 g keys (at + 1)) (sym w.put.ensures)
          (front_more right 0 g keys at counts c.loop-at.invariant w.in-Some.number.now w.count_below-count.result
          c.requires.sequence (sym w.in-Some.ensures.key) w.count_below-count.ensures))
      | in_default w ↦
          subst (λ v. FrontOf right 0 g keys (at + 1) v.items) (sym w.counts-is)
          (front_past right 0 g keys at counts c.loop-at.invariant (sym w.in_default.ensures.key))
    ]

pub returns : goal.returns
returns c =
    front_all (Counted c.args.limit c.args.graph.now c.args.marks.now) 0 c.args.graph.now c.args.order.now.keys
    c.loop-at.at c.loop-at.counts.items c.loop-at.invariant c.requires (omega arith)
