use Rattle.std.proofs.Common.{◌+◌, ◌∙◌, None, ap, arith, get_or, length, min, option_map, subst, sym}
use Rattle.aadl_uses.proofs.MarkedPathCounts.{Begun, below_is}
use Rattle.aadl_uses.specs.proof.HeaviestPaths.{IsGreatestOf, path_weight, weight_of, heavier}
use Rattle.aadl_uses.proofs.HeaviestPaths.{heaviest_more, heaviest_all}
use Rattle.aadl_uses.proofs.path_weights.heaviest_of.Goals as goal

pub loop-sub-preserved : goal.loop-sub-preserved
loop-sub-preserved c =
    let g = c.args.graph.now in
    let n = c.args.number in
    let i = c.loop-sub.sub in
    let ts = c.targets-target-items.result.now in
    subst (IsGreatestOf (Begun g c.args.marks.now n (i + 1)) (path_weight g c.args.weights.now n) c.args.limit)
    (sym (c.heavier-heaviest.ensures ∙ ap (heavier c.loop-sub.heaviest) (c.through.ensures
    ∙ (ap (λ wt. option_map (λ w. min c.args.limit (wt + w)) c.found_from-below.result) c.get.ensures
    ∙ ap (option_map (λ w. min c.args.limit (weight_of c.args.weights.now n i + w))) c.found_from-below.ensures))))
    (heaviest_more c.args.limit g c.args.marks.now c.args.weights.now n i c.args.found.now (get_or ts i None)
    c.loop-sub.heaviest (below_is g n i ts c.targets-target-items.ensures c.loop-sub-test.true) c.requires
    c.loop-sub.invariant)

pub returns : goal.returns
returns c =
    let size = ap length c.targets-target-items.ensures in
    heaviest_all c.args.limit c.args.graph.now c.args.marks.now c.args.weights.now c.args.number c.loop-sub.sub
    c.loop-sub.heaviest (omega (arith, size, c.loop-sub-test.false)) c.loop-sub.invariant
