use Rattle.std.proofs.Common.{◌+◌, None, arith, subst, sym}
use Rattle.list_lemmas.proofs.ElementPositions.{Contains-from_slice_get}
use Rattle.aadl_uses.proofs.ContainmentOrderValues.{FrontOf, front_past, front_more, front_all}
use Rattle.aadl_uses.specs.proof.HeaviestPaths.{IsHeaviest}
use Rattle.aadl_uses.proofs.path_weights.heaviest_below.Goals.{in-Some, in_default}
use Rattle.aadl_uses.proofs.path_weights.heaviest_below.Goals as goal

pub put-requires : goal.put-requires
put-requires c =
    let least =
    c.requires.sequence.declared c.in-Some.number.now
    (Contains-from_slice_get c.args.order.now.keys c.loop-at.at c.in-Some.number.now (sym c.in-Some.ensures.key)) in
    omega (arith, least, c.loop-at.invariant.size)

pub loop-at-preserved : goal.loop-at-preserved
loop-at-preserved c =
    let g = c.args.graph.now in
    let right = IsHeaviest c.args.limit g c.args.marks.now c.args.weights.now in
    let keys = c.args.order.now.keys in
    let at = c.loop-at.at in
    elim c.match-get_index.branch [
      | in-Some w ↦
          subst (λ v. FrontOf right None g keys (at + 1) v.items) (sym w.found-is)
          (subst (FrontOf right None g keys (at + 1)) (sym w.put.ensures)
          (front_more right None g keys at c.loop-at.found.items c.loop-at.invariant w.in-Some.number.now
          w.heaviest_of-heaviest.result c.requires.sequence (sym w.in-Some.ensures.key)
          w.heaviest_of-heaviest.ensures))
      | in_default w ↦
          subst (λ v. FrontOf right None g keys (at + 1) v.items) (sym w.found-is)
          (front_past right None g keys at c.loop-at.found.items c.loop-at.invariant (sym w.in_default.ensures.key))
    ]

pub returns : goal.returns
returns c =
    front_all (IsHeaviest c.args.limit c.args.graph.now c.args.marks.now c.args.weights.now) None c.args.graph.now
    c.args.order.now.keys c.loop-at.at c.loop-at.found.items c.loop-at.invariant c.requires (omega arith)
