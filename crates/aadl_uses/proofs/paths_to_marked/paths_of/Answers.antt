use Rattle.std.proofs.Common.{◌+◌, ◌++◌, ◌∙◌, ap, arith, length, map, subst, sym}
use Rattle.aadl_uses.specs.proof.OrderedLists.{AreListed}
use Rattle.aadl_uses.specs.ThreadsBelow.{path_before}
use Rattle.aadl_uses.proofs.MarkedPathCounts.{Begun, listed_more, listed_same, all_listed, below_is}
use Rattle.aadl_uses.specs.proof.MarkedPathLists.{paths_from}
use Rattle.aadl_uses.proofs.MarkedPathLists.{through_all}
use Rattle.aadl_uses.proofs.paths_to_marked.paths_of.Goals.{in-Some+in_ok-add_below, in_default}
use Rattle.aadl_uses.proofs.paths_to_marked.paths_of.Goals as goal

pub loop-sub-preserved : goal.loop-sub-preserved
loop-sub-preserved c =
    let g = c.args.graph.now in
    let n = c.args.number in
    let i = c.loop-sub.sub in
    let ts = c.targets-target-items.result.now in
    let below = below_is g n i ts c.targets-target-items.ensures c.loop-sub-test.true in
    elim c.match-target.branch [
      | in-Some+in_ok-add_below w ↦
          let rows = paths_from c.args.paths.now w.in-Some.below in
          subst (λ row. AreListed (Begun g c.args.marks.now n (i + 1)) path_before (map (λ path. path.items) row.items))
          (sym w.row-is)
          (subst (AreListed (Begun g c.args.marks.now n (i + 1)) path_before)
          (sym (w.in_ok-add_below.ensures
          ∙ ap (λ l. map (λ path. path.items) c.loop-sub.row.items ++ l)
          (through_all (λ path. path.items) i w.from.result.now rows w.from.ensures)))
          (listed_more g c.args.marks.now n i w.in-Some.below (map (λ path. path.items) c.loop-sub.row.items) rows
          (below ∙ w.in-Some.is) c.loop-sub.invariant (c.requires i w.in-Some.below (below ∙ w.in-Some.is))))
      | in_default w ↦
          subst (λ row. AreListed (Begun g c.args.marks.now n (i + 1)) path_before (map (λ path. path.items) row.items))
          (sym w.row-is)
          (listed_same g c.args.marks.now n i (map (λ path. path.items) c.loop-sub.row.items) (below ∙ w.in_default.is)
          c.loop-sub.invariant)
    ]

pub returns : goal.returns
returns c =
    let size = ap length c.targets-target-items.ensures in
    all_listed c.args.graph.now c.args.marks.now c.args.number c.loop-sub.sub
    (map (λ path. path.items) c.loop-sub.row.items) (omega (arith, size, c.loop-sub-test.false))
    c.loop-sub.invariant
